use Rattle.iloc_text.proofs.Common.{◌≡◌, length, after_blanks}
use Rattle.iloc_text.proofs.line.scan.after_all_blanks.Given as goal

abbrev pub invariant-loop-rest : goal.invariant-loop-rest
invariant-loop-rest l = after_blanks l.rest ≡ after_blanks l.fn.bytes

abbrev pub decreases-loop-rest : goal.decreases-loop-rest
decreases-loop-rest l = length l.rest
