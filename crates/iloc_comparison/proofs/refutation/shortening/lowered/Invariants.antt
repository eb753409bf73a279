use Rattle.iloc_comparison.specs.Memory.{memory_of}
use Rattle.iloc_comparison.specs.Steps.Refuting.{DiffersAt}
use Rattle.iloc_comparison.proofs.refutation.shortening.lowered.Given as goal

abbrev pub invariant-loop-part : goal.invariant-loop-part
invariant-loop-part l = DiffersAt l.trial (memory_of l.kept.probe) l.kept.difference
