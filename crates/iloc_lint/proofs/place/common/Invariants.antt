use Rattle.iloc_lint.proofs.Common.{◌≡◌, ◌+◌, ◌≤◌, length, common_in}
use Rattle.iloc_lint.proofs.place.common.Given as goal

abbrev pub invariant-loop-left : goal.invariant-loop-left
invariant-loop-left l = (length l.rest ≤ length l.fn.bytes)
    × (length l.left + length l.fn.bytes ≡ length l.fn.text + length l.rest)
    × (common_in l.fn.text l.fn.bytes + length l.rest ≡ length l.fn.bytes + common_in l.left l.rest)

abbrev pub decreases-loop-left : goal.decreases-loop-left
decreases-loop-left l = length l.rest
