-- A difference of one kind alone.
use Rattle.std.specs.Prelude.{List, ℤ}
use Rattle.iloc_comparison.specs.declared.difference.Difference.{Difference}
use Rattle.iloc_comparison.specs.declared.difference.Difference.TheVariants.{Output, Word, Fault, NoFault}
use Rattle.iloc_comparison.specs.Difference.{IsFirstOutput, IsLowestWord}

-- the difference is the first output that differs
abbrev pub IsOutput : List ℤ → List ℤ → Difference → Type 0
IsOutput gots wanteds (Output index got wanted) = IsFirstOutput gots wanteds index got wanted
IsOutput gots wanteds (Word address got wanted) = ⊥
IsOutput gots wanteds Fault = ⊥
IsOutput gots wanteds NoFault = ⊥

-- the difference is the lowest word that differs
abbrev pub IsWord : List ℤ → List ℤ → Difference → Type 0
IsWord gots wanteds (Output index got wanted) = ⊥
IsWord gots wanteds (Word address got wanted) = IsLowestWord gots wanteds address got wanted
IsWord gots wanteds Fault = ⊥
IsWord gots wanteds NoFault = ⊥
