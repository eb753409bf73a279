use Rattle.std.proofs.Common.{◌≡◌, length}
use Rattle.iloc_validation.proofs.colours.issue_order.sources_by_place.Given as goal

abbrev pub invariant-loop-k : goal.invariant-loop-k
invariant-loop-k l = length l.sources.items ≡ l.k-index
