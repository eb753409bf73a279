use Rattle.iloc_validation.specs.Steps.Colours.{ArePassedTo}
use Rattle.iloc_validation.proofs.colours.all_passed.Given as goal

abbrev pub invariant-loop : goal.invariant-loop
invariant-loop l = ArePassedTo l.block l.rows l.fn.colours l.last
