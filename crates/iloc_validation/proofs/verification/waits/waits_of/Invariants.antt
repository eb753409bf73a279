use Rattle.iloc_validation.proofs.Common.{◌≡◌, ℕ, ◌<◌, length, slice_index, op_at, kind, Kind, reading_at, earliest, wait_of}
use Rattle.iloc_validation.proofs.verification.waits.waits_of.Given as goal

abbrev pub invariant-loop-i : goal.invariant-loop-i
invariant-loop-i l = record {
  now : (k : Kind)
      → wait_of l.waits k ≡ earliest l.latencies l.block (λ j. (reading_at l.readings (slice_index l.partner j)).cycle) l.i k;
  size : length l.all.items ≡ l.i;
  each : (j : ℕ) → j < l.i → slice_index l.all.items j
      ≡ earliest l.latencies l.block (λ j. (reading_at l.readings (slice_index l.partner j)).cycle) j (kind (op_at l.block j));
}
