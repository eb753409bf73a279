use Rattle.iloc_driver.proofs.Common.{◌≡◌, ◌*◌, ◌^◌, ◌≤◌, length, number_after}
use Rattle.iloc_driver.proofs.reading.priorities.number_in.Given as goal

abbrev pub invariant-loop-rest : goal.invariant-loop-rest
invariant-loop-rest l = (l.number ≤ 10 * 2 ^ 32) × (number_after l.number l.rest ≡ number_after 0 l.fn.word)

abbrev pub decreases-loop-rest : goal.decreases-loop-rest
decreases-loop-rest l = length l.rest
