use Rattle.iloc_lint.proofs.Common.{◌≡◌, ◌+◌, ◌≤◌, length, word_in}
use Rattle.iloc_lint.proofs.place.word_at.Given as goal

abbrev pub invariant-loop-rest : goal.invariant-loop-rest
invariant-loop-rest l =
    (length l.rest ≤ length l.fn.bytes) × (word_in l.fn.bytes + length l.rest ≡ length l.fn.bytes + word_in l.rest)

abbrev pub decreases-loop-rest : goal.decreases-loop-rest
decreases-loop-rest l = length l.rest
