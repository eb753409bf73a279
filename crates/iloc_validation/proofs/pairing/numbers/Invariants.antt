use Rattle.std.proofs.Common.{◌≡◌, ◌<◌, ℕ, length, slice_index}
use Rattle.iloc_validation.proofs.pairing.numbers.Given as goal

abbrev pub invariant-loop-k : goal.invariant-loop-k
invariant-loop-k l = (length l.numbers.items ≡ l.k) × ((j : ℕ) → j < l.k → slice_index l.numbers.items j ≡ j)
