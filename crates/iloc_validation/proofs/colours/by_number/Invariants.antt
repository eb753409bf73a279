use Rattle.std.proofs.Common.{◌≡◌, ◌<◌, ℕ, length, slice_index}
use Rattle.iloc_validation.proofs.colours.by_number.Given as goal

abbrev pub invariant-loop-number : goal.invariant-loop-number
invariant-loop-number l = record {
  size : length l.own.items ≡ l.number-index;
  each : (p : ℕ) → p < l.number-index → slice_index l.own.items p ≡ slice_index l.colours (slice_index l.numbers p);
}
