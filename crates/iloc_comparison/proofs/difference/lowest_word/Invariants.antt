use Rattle.std.proofs.Common.{ℕ, ◌≡◌, ◌*◌, ◌<◌}
use Rattle.iloc_meaning.specs.Memory.{word_at}
use Rattle.iloc_comparison.proofs.difference.lowest_word.Given as goal

abbrev pub invariant-loop-number : goal.invariant-loop-number
invariant-loop-number l = (a : ℕ) → a < 4 * l.number → word_at l.got a ≡ word_at l.wanted a
