use Rattle.std.proofs.Common.{◌≡◌, length}
use Rattle.iloc_validation.proofs.colours.issue_order.places.Given as goal

abbrev pub invariant-loop-p : goal.invariant-loop-p
invariant-loop-p l = length l.places.items ≡ l.fn.count
