use Rattle.iloc_driver.proofs.Common.{◌≡◌, ◌+◌, ◌≤◌, length, words_of}
use Rattle.iloc_driver.proofs.reading.priorities.count_words.Given as goal

abbrev pub invariant-loop-after : goal.invariant-loop-after
invariant-loop-after l = (l.count + length (words_of l.rest) ≡ length (words_of l.fn.line))
    × (l.count + length l.rest ≤ length l.fn.line)

abbrev pub decreases-loop-after : goal.decreases-loop-after
decreases-loop-after l = length l.rest
