use Rattle.iloc_reasons.proofs.Common.{◌≡◌, ℕ, ◌<◌, length, Some}
use Rattle.iloc_reasons.specs.Origins.{origin_at, IsKnown}
use Rattle.iloc_reasons.proofs.origins.known_origins.Given as goal

abbrev pub invariant-loop-k : goal.invariant-loop-k
invariant-loop-k l = record {
  size : length l.known.items ≡ l.k;
  each : (i j : ℕ) → j < l.k → origin_at l.known.items j ≡ Some i → IsKnown l.sides.latencies.now l.sides.block.items
      l.sides.schedule.now.ops l.sides.schedule.now.rows l.known.items i j;
}
