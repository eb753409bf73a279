-- Where an outcome differs from the one that was wanted.
use Rattle.std.specs.Prelude.{ℕ, ◌≡◌, ◌≢◌, ◌<◌, Bool, false, List, Option, slice_get, IsTrue, ℤ, pos}
use Rattle.iloc_meaning.specs.declared.outcome.Outcome.{Outcome}
use Rattle.iloc_meaning.specs.declared.outcome.Outcome.TheVariants as O
use Rattle.iloc_meaning.specs.Address.{is_good}
use Rattle.iloc_meaning.specs.Memory.{word_at}
use Rattle.iloc_comparison.specs.declared.difference.Difference.{Difference}
use Rattle.iloc_comparison.specs.declared.difference.Difference.TheVariants.{Output, Word, Fault, NoFault}

-- the first output that differs, with both words; nothing where there is none
pub record IsFirstOutput (gots wanteds : List ℤ) (index : ℕ) (got wanted : Option ℤ) : Type 0 where
  pub first : slice_get gots index ≡ got
  pub second : slice_get wanteds index ≡ wanted
  pub apart : got ≢ wanted
  pub others : (k : ℕ) → k < index → slice_get gots k ≡ slice_get wanteds k

-- the lowest address whose words differ, with both
pub record IsLowestWord (gots wanteds : List ℤ) (address : ℕ) (got wanted : ℤ) : Type 0 where
  pub good : IsTrue (is_good (pos address))
  pub first : word_at gots address ≡ got
  pub second : word_at wanteds address ≡ wanted
  pub apart : got ≢ wanted
  pub others : (a : ℕ) → a < address → word_at gots a ≡ word_at wanteds a

-- the difference is the first output that differs, or else, where not outputs alone are compared, the lowest word
abbrev pub IsIn : Bool → List ℤ → List ℤ → List ℤ → List ℤ → Difference → Type 0
IsIn outputs gots memory wanteds wanted_memory (Output index got wanted) = IsFirstOutput gots wanteds index got wanted
IsIn outputs gots memory wanteds wanted_memory (Word address got wanted) =
    (outputs ≡ false) × (gots ≡ wanteds) × IsLowestWord memory wanted_memory address got wanted
IsIn outputs gots memory wanteds wanted_memory Fault = ⊥
IsIn outputs gots memory wanteds wanted_memory NoFault = ⊥

-- where the first outcome differs from the second, which was wanted
abbrev pub IsDifference : Bool → Outcome → Outcome → Difference → Type 0
IsDifference outputs O.Fault O.Fault difference = ⊥
IsDifference outputs O.Fault (O.Finished wanteds wanted_memory) difference = difference ≡ Fault
IsDifference outputs (O.Finished gots memory) O.Fault difference = difference ≡ NoFault
IsDifference outputs (O.Finished gots memory) (O.Finished wanteds wanted_memory) difference =
    IsIn outputs gots memory wanteds wanted_memory difference
