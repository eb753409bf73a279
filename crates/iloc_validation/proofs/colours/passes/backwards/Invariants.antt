use Rattle.iloc_validation.proofs.Common.{◌≡◌, ℕ, ◌+◌, ◌-◌, ◌%◌, ◌^◌, ◌<◌, ◌≤◌, length, slice_index, heard, mixed}
use Rattle.iloc_validation.proofs.colours.passes.backwards.Given as goal

abbrev pub invariant-loop-k : goal.invariant-loop-k
invariant-loop-k l = record {
  within : l.k ≤ length l.sources;
  heard_size : length l.heard.items ≡ length l.sources;
  size : length l.new.items ≡ length l.sources;
  so_far : (s : ℕ) → s < length l.sources → slice_index l.heard.items s
      ≡ heard (slice_index l.new.items) l.sources s l.k (length l.sources - l.k) % 2 ^ 64;
  each : (j : ℕ) → l.k ≤ j → j < length l.sources → slice_index l.new.items j
      ≡ mixed (slice_index l.colours j)
      (heard (slice_index l.new.items) l.sources j (j + 1) (length l.sources - (j + 1)) % 2 ^ 64);
}

abbrev pub decreases-loop-k : goal.decreases-loop-k
decreases-loop-k l = l.k
