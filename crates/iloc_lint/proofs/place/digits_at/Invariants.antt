use Rattle.iloc_lint.proofs.Common.{◌≡◌, ◌+◌, ◌≤◌, length, digits_in}
use Rattle.iloc_lint.proofs.place.digits_at.Given as goal

abbrev pub invariant-loop-rest : goal.invariant-loop-rest
invariant-loop-rest l = (length l.rest ≤ length l.fn.bytes) × (l.value ≤ 2147483647)
    × (digits_in 0 l.fn.bytes + length l.rest ≡ length l.fn.bytes + digits_in l.value l.rest)

abbrev pub decreases-loop-rest : goal.decreases-loop-rest
decreases-loop-rest l = length l.rest
