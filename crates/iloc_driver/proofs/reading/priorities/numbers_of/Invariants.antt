use Rattle.iloc_driver.proofs.Common.{◌≡◌, length, numbers_of, words_of, before_and}
use Rattle.iloc_driver.proofs.reading.priorities.numbers_of.Given as goal

abbrev pub invariant-loop-word : goal.invariant-loop-word
invariant-loop-word l =
    before_and l.found.items (numbers_of l.block (words_of l.rest)) ≡ numbers_of l.block (words_of l.fn.line)

abbrev pub decreases-loop-word : goal.decreases-loop-word
decreases-loop-word l = length l.rest
