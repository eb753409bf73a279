use Rattle.std.proofs.Common.{◌≡◌, length}
use Rattle.iloc_driver.proofs.farmed.desks.Given as goal

abbrev pub invariant-loop : goal.invariant-loop
invariant-loop g l = length l.desks.items ≡ l.counter
