use Rattle.iloc_reasons.proofs.Common.{◌≡◌, ℕ, ◌<◌, ◌⊎◌, ◌↔◌, length, Some}
use Rattle.iloc_reasons.specs.Origins.{origin_at, AreLast}
use Rattle.iloc_reasons.proofs.origins.origins_among.Given as goal

abbrev pub invariant-loop-k : goal.invariant-loop-k
invariant-loop-k l = record {
  size : length l.origins.items ≡ l.k;
  each : (j : ℕ) → j < l.k → (i : ℕ) → (origin_at l.origins.items j ≡ Some i)
      ↔ ((origin_at l.known j ≡ Some i) ⊎ AreLast l.sides.block.items l.sides.schedule.now.ops l.known i j);
}
