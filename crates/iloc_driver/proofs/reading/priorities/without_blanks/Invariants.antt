use Rattle.iloc_driver.proofs.Common.{◌≡◌, ◌≤◌, length, without}
use Rattle.iloc_text.specs.Grammar.{is_blank}
use Rattle.iloc_driver.proofs.reading.priorities.without_blanks.Given as goal

abbrev pub invariant-loop-rest : goal.invariant-loop-rest
invariant-loop-rest l = (without is_blank l.rest ≡ without is_blank l.fn.line) × (length l.rest ≤ length l.fn.line)

abbrev pub decreases-loop-rest : goal.decreases-loop-rest
decreases-loop-rest l = length l.rest
