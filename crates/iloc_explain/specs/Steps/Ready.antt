-- When operations are ready, as far as the delay pairs were gone through.
use Rattle.std.specs.Prelude.{ℕ, ◌+◌, ◌≡◌, ◌≤◌, ◌⊎◌, List, length, slice_index}
use Rattle.iloc_rules.specs.declared.delay_pairs.Pair.{Pair}
use Rattle.iloc_rules.specs.Steps.Members.{In}

-- By operation the first cycle at which all delays of `pairs` to it are over, where operations are `issued` at their
-- cycles.
pub record AreReady (pairs : List Pair) (issued ready : List ℕ) : Type 0 where
  pub size : length ready ≡ length issued
  pub over : (p : Pair) → In pairs p → slice_index issued p.first + p.delay ≤ slice_index ready p.second
  pub reached : (j : ℕ) → (slice_index ready j ≡ 0)
      ⊎ ((p : Pair) × In pairs p × (p.second ≡ j) × (slice_index issued p.first + p.delay ≡ slice_index ready j))
