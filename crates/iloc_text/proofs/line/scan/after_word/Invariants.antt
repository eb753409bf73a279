use Rattle.iloc_text.proofs.Common.{◌≡◌, ◌≤◌, length, after_word}
use Rattle.iloc_text.proofs.line.scan.after_word.Given as goal

abbrev pub invariant-loop-rest : goal.invariant-loop-rest
invariant-loop-rest l = (after_word l.rest ≡ after_word l.fn.bytes) × (length l.rest ≤ length l.fn.bytes)

abbrev pub decreases-loop-rest : goal.decreases-loop-rest
decreases-loop-rest l = length l.rest
