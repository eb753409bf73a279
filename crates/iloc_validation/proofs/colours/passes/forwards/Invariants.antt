use Rattle.iloc_validation.proofs.Common.{◌≡◌, ℕ, ◌<◌, length, slice_index, sources_at, IsBelow, with_told}
use Rattle.iloc_validation.proofs.colours.passes.forwards.Given as goal

abbrev pub invariant-loop-k : goal.invariant-loop-k
invariant-loop-k l = record {
  size : length l.new.items ≡ l.k;
  each : (j : ℕ) → j < l.k → IsBelow j (sources_at l.sources j) → slice_index l.new.items j
      ≡ with_told (slice_index l.new.items) (slice_index l.colours j) (sources_at l.sources j);
}
