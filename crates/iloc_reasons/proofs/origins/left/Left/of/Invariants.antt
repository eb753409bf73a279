use Rattle.iloc_reasons.specs.Steps.Origins.{AreLeft}
use Rattle.iloc_reasons.proofs.origins.left.Left.of.Given as goal

abbrev pub invariant-loop-i : goal.invariant-loop-i
invariant-loop-i l = AreLeft l.ops l.noted l.i l.left
