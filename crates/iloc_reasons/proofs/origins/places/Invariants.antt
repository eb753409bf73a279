use Rattle.iloc_reasons.specs.Steps.Origins.{AreAlone}
use Rattle.iloc_reasons.proofs.origins.places.Given as goal

abbrev pub invariant-loop-i : goal.invariant-loop-i
invariant-loop-i l = AreAlone l.numbers l.i l.alone
