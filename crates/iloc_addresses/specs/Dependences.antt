-- The operations that an operation has to wait for by memory and outputs, as far as they are worth an edge.
use Rattle.std.specs.Prelude.{ℕ, ◌<◌, ◌≤◌, ◌==◌, List, Contains, count_by}
use Rattle.iloc_ops.specs.declared.op.Op.{Op}
use Rattle.iloc_meaning.specs.Trace.{op_at}
use Rattle.iloc_timed.specs.declared.latencies.Latencies.{Latencies}
use Rattle.iloc_rules.specs.Delays.{Counts, memory_delays_where}
use Rattle.iloc_addresses.specs.Near.{NoneBetween}

-- (`i`, `j`, `d`) is a delay pair by memory or outputs, by `counts`
pub record IsMemoryPair (counts : Counts) (lat : Latencies) (ops : List Op) (i j d : ℕ) : Type 0 where
  pub order : i < j
  pub delay : Contains (memory_delays_where (counts i j) lat (op_at ops i) (op_at ops j)) d

-- Operation `j` has to wait for each of `sources` by memory or outputs, whatever the latencies, with none between that
-- takes its place; none is there twice, and each operation is there of which that holds.
pub record AreSources (counts : Counts) (ops : List Op) (j : ℕ) (sources : List ℕ) : Type 0 where
  pub each : (lat : Latencies) (i : ℕ) → Contains sources i → (d : ℕ) × IsMemoryPair counts lat ops i j d
  pub alone : (i : ℕ) → Contains sources i → NoneBetween counts ops i j
  pub near : (lat : Latencies) (i d : ℕ) → IsMemoryPair counts lat ops i j d → NoneBetween counts ops i j → Contains sources i
  pub once : (i : ℕ) → count_by (λ k. k == i) sources ≤ 1
