use Rattle.iloc_lint.proofs.Common.{◌≡◌, ◌+◌, ◌≤◌, length, blanks_in}
use Rattle.iloc_lint.proofs.place.blanks_at.Given as goal

abbrev pub invariant-loop-rest : goal.invariant-loop-rest
invariant-loop-rest l =
    (length l.rest ≤ length l.fn.bytes) × (blanks_in l.fn.bytes + length l.rest ≡ length l.fn.bytes + blanks_in l.rest)

abbrev pub decreases-loop-rest : goal.decreases-loop-rest
decreases-loop-rest l = length l.rest
