-- The memories that the judge makes up.
use Rattle.std.specs.Prelude.{List, ℤ}
use Rattle.iloc_meaning.specs.Memory.{words_from}
use Rattle.iloc_comparison.specs.declared.refutation.probe.Probe.{Probe}

-- the memory that a probe is
abbrev pub memory_of : Probe → List ℤ
memory_of probe = words_from probe.at probe.words.items
