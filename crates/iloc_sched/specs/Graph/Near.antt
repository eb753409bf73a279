-- The delay pairs that the scheduler keeps as edges: every other goes by way of an operation between.
use Rattle.std.specs.Prelude.{ℕ, ◌≡◌, ◌<◌, ◌⊎◌, Bool, false, if◌then◌else◌, List, length, Contains, IsTrue}
use Rattle.iloc_ops.specs.declared.op.Op.{Op}
use Rattle.iloc_meaning.specs.Trace.{op_at}
use Rattle.iloc_timed.specs.declared.latencies.Latencies.{Latencies}
use Rattle.iloc_timed.specs.Kinds.{kind, is_store, is_output}
use Rattle.iloc_timed.specs.Latency.{latency}
use Rattle.iloc_rules.specs.declared.memory_rule.MemoryRule.{MemoryRule}
use Rattle.iloc_rules.specs.declared.memory_rule.MemoryRule.TheVariants.{Book, Address}
use Rattle.iloc_rules.specs.Apart.{by_address}
use Rattle.iloc_rules.specs.Delays.{uses_result, memory_delays, delays_where}
use Rattle.iloc_rules.specs.Rule.{counts_by}
use Rattle.iloc_addresses.specs.Near.{IsNear as IsNearWhere}

-- whether k takes the place of i for what comes later: an output takes that of an output, a store that of any other
abbrev pub takes_over : Op → Op → Bool
takes_over i k = if is_output (kind i) then is_output (kind k) else is_store (kind k)

-- none between i and j takes the place of i
abbrev pub NoneBetween : List Op → ℕ → ℕ → Type 0
NoneBetween ops i j = (k : ℕ) → i < k → k < j → takes_over (op_at ops i) (op_at ops k) ≡ false

-- j uses the result of i, or comes after it by memory or output with none between that takes its place
abbrev pub IsNear : Latencies → List Op → ℕ → ℕ → ℕ → Type 0
IsNear lat ops i j d =
    (IsTrue (uses_result (op_at ops i) (op_at ops j)) × (d ≡ latency lat (op_at ops i)))
    ⊎ (Contains (memory_delays lat (op_at ops i) (op_at ops j)) d × NoneBetween ops i j)

-- near, by a rule of memory
abbrev pub IsNearBy : MemoryRule → Latencies → List Op → ℕ → ℕ → ℕ → Type 0
IsNearBy Book lat ops i j d = IsNear lat ops i j d
IsNearBy Address lat ops i j d = IsNearWhere (by_address ops) lat ops i j d

-- by the rule operation j waits d cycles for operation i, and near
pub record IsNearPairBy (rule : MemoryRule) (lat : Latencies) (ops : List Op) (i j d : ℕ) : Type 0 where
  pub order : i < j
  pub within : j < length ops
  pub delay : Contains (delays_where (counts_by rule ops i j) lat (op_at ops i) (op_at ops j)) d
  pub near : IsNearBy rule lat ops i j d

-- the same by the book
abbrev pub IsNearPair : Latencies → List Op → ℕ → ℕ → ℕ → Type 0
IsNearPair = IsNearPairBy Book
