use Rattle.iloc_validation.proofs.Common.{ℕ, ◌<◌, AreReadAt}
use Rattle.iloc_validation.proofs.colours.issue_order.are_read.Given as goal

abbrev pub invariant-loop-p : goal.invariant-loop-p
invariant-loop-p l = (q : ℕ) → q < l.p → AreReadAt l.ops l.sources l.readings q
