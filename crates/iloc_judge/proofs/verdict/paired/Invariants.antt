use Rattle.iloc_judge.proofs.Common.{◌≡◌, ℕ, ◌<◌, length, slice_index, Some}
use Rattle.iloc_reasons.specs.Origins.{origin_at}
use Rattle.iloc_judge.proofs.verdict.paired.Given as goal

abbrev pub invariant-loop-k : goal.invariant-loop-k
invariant-loop-k l = record {
  size : length l.origins.items ≡ l.k;
  each : (j : ℕ) → j < l.k → origin_at l.origins.items j ≡ Some (slice_index l.pairing.origin.items j);
}
