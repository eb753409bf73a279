-- The delay pairs that are worth an edge, whichever count: every other goes by way of an operation between.
use Rattle.std.specs.Prelude.{ℕ, ◌≡◌, ◌<◌, ◌⊎◌, ◌&&◌, Bool, false, if◌then◌else◌, List, Contains, IsTrue}
use Rattle.iloc_ops.specs.declared.op.Op.{Op}
use Rattle.iloc_meaning.specs.Trace.{op_at}
use Rattle.iloc_timed.specs.declared.latencies.Latencies.{Latencies}
use Rattle.iloc_timed.specs.Kinds.{kind, is_store, is_output}
use Rattle.iloc_timed.specs.Latency.{latency}
use Rattle.iloc_rules.specs.Delays.{Counts, uses_result, memory_delays_where}

-- whether k takes the place of i for j: an output between outputs, else a store that counts with both
abbrev pub takes_over : Counts → List Op → ℕ → ℕ → ℕ → Bool
takes_over counts ops i j k =
    if is_output (kind (op_at ops i)) && is_output (kind (op_at ops j)) then is_output (kind (op_at ops k))
    else is_store (kind (op_at ops k)) && (counts i k && counts k j)

-- none between i and j takes the place of i for j
abbrev pub NoneBetween : Counts → List Op → ℕ → ℕ → Type 0
NoneBetween counts ops i j = (k : ℕ) → i < k → k < j → takes_over counts ops i j k ≡ false

-- j uses the result of i, or comes after it by memory or output with none between that takes its place
abbrev pub IsNear : Counts → Latencies → List Op → ℕ → ℕ → ℕ → Type 0
IsNear counts lat ops i j d =
    (IsTrue (uses_result (op_at ops i) (op_at ops j)) × (d ≡ latency lat (op_at ops i)))
    ⊎ (Contains (memory_delays_where (counts i j) lat (op_at ops i) (op_at ops j)) d × NoneBetween counts ops i j)
