use Rattle.std.specs.Prelude.{◌<◌}
use Rattle.iloc_explain.specs.Steps.Greatest.{IsGreatestTo}
use Rattle.iloc_explain.proofs.chain.place_of_greatest.Given as goal

abbrev pub invariant-loop-i : goal.invariant-loop-i
invariant-loop-i l = IsGreatestTo l.numbers l.i l.greatest × (l.greatest < l.i)
