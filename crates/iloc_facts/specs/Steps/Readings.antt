-- When operations are issued and what they read, as far as the rows were gone through.
use Rattle.std.specs.Prelude.{ℕ, ◌≡◌, ◌<◌, List, length, slice_set, Option, Some, None}
use Rattle.iloc_ops.specs.declared.op.Op.{Op}
use Rattle.iloc_timed.specs.declared.latencies.Latencies.{Latencies}
use Rattle.iloc_timed.specs.declared.row.Row.{Row}
use Rattle.iloc_timed.specs.Rows.{issue_cycle}
use Rattle.iloc_facts.specs.declared.reading.Reading.{Reading}
use Rattle.iloc_facts.specs.Readings.{reading_of, reading_at}

-- the list with what is noted of what stands in a slot
abbrev pub with_noted : List Reading → Option ℕ → (ℕ → Reading) → List Reading
with_noted readings None noted = readings
with_noted readings (Some k) noted = slice_set readings k (noted k)

-- of each operation that the rows before cycle c hold it is noted
pub record AreNoted (lat : Latencies) (ops : List Op) (rows : List Row) (c : ℕ) (readings : List Reading) : Type 0 where
  pub size : length readings ≡ length ops
  pub each : (k : ℕ) → k < length ops → issue_cycle rows k < c → reading_at readings k ≡ reading_of lat ops rows k
