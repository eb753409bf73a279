-- The cycles of issue by operation, as far as the rows were gone through.
use Rattle.std.specs.Prelude.{ℕ, ◌≡◌, ◌<◌, List, length, slice_index, slice_set, Option, Some, None}
use Rattle.iloc_timed.specs.declared.row.Row.{Row}
use Rattle.iloc_timed.specs.Rows.{issue_cycle}

-- the list with a cycle at the place of what stands in a slot
abbrev pub with_slot : List ℕ → Option ℕ → ℕ → List ℕ
with_slot cycles None c = cycles
with_slot cycles (Some i) c = slice_set cycles i c

-- `cycles` has the cycles of issue of what the first `c` rows hold
pub record AreIssued (rows : List Row) (count c : ℕ) (cycles : List ℕ) : Type 0 where
  pub size : length cycles ≡ count
  pub each : (i : ℕ) → i < count → issue_cycle rows i < c → slice_index cycles i ≡ issue_cycle rows i
