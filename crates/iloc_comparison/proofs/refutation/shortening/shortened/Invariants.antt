use Rattle.iloc_comparison.specs.Memory.{memory_of}
use Rattle.iloc_comparison.specs.Steps.Refuting.{DiffersAt}
use Rattle.iloc_comparison.proofs.refutation.shortening.shortened.Given as goal

abbrev pub invariant-loop-round : goal.invariant-loop-round
invariant-loop-round l = DiffersAt l.trial (memory_of l.kept.probe) l.kept.difference
