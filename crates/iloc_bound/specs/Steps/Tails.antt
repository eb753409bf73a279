-- The parts of a tail, and what holds while tails are found.
use Rattle.std.specs.Prelude.{ℕ, suc, ◌+◌, ◌≡◌, ◌<◌, ◌≤◌, max, if◌then◌else◌, List, [], ◌++◌, fold, drop, length, slice_index}
use Rattle.iloc_ops.specs.declared.op.Op.{Op}
use Rattle.iloc_meaning.specs.Trace.{op_at}
use Rattle.iloc_timed.specs.declared.kind.Kind.{Kind}
use Rattle.iloc_timed.specs.declared.latencies.Latencies.{Latencies}
use Rattle.iloc_timed.specs.Kinds.{is_load, is_store}
use Rattle.iloc_timed.specs.Latency.{latency}
use Rattle.iloc_rules.specs.Delays.{when}
use Rattle.iloc_rules.specs.Priority.{reaches}
use Rattle.iloc_rules.specs.Least.{needed, load_tails, tails, tail}
use Rattle.iloc_sched.specs.Graph.Near.{IsNearPair}

-- the tails of the loads from operation i on, up to the next store
abbrev pub loads_from : Latencies → List Op → ℕ → List ℕ
loads_from lat ops i = load_tails (drop i ops) (drop i (tails lat ops))

-- the tails of the loads from an operation on, which is of kind `k` and has the tail `tail`; `loads` are the ones from
-- the next on
abbrev pub loads_by : Kind → ℕ → List ℕ → List ℕ
loads_by k tail loads = if is_store k then [] else loads ++ when (is_load k) tail

-- the part of a tail that latency and delays leave
abbrev pub chain_tail : Latencies → List Op → ℕ → ℕ
chain_tail lat ops i = fold max (latency lat (op_at ops i))
    (reaches lat (op_at ops i) (drop (suc i) ops) (drop (suc i) (tails lat ops)))

-- a tail by that part and by the loads behind it
abbrev pub tail_by : Kind → ℕ → ℕ → List ℕ → ℕ
tail_by k chain latency loads = if is_store k then max chain (needed latency 1 loads) else chain

-- `found` while tails are found from the last: operations from `j` on have theirs, each other number is between its
-- latency and what its delays leave, and the near pairs into the operations from `k` on are kept.
pub record IsTailed (lat : Latencies) (ops : List Op) (found : List ℕ) (j k : ℕ) : Type 0 where
  pub size : length found ≡ length ops
  pub own : (i : ℕ) → i < length ops → latency lat (op_at ops i) ≤ slice_index found i
  pub upper : (i : ℕ) → i < j → i < length ops → slice_index found i ≤ chain_tail lat ops i
  pub done : (i : ℕ) → j ≤ i → i < length ops → slice_index found i ≡ tail lat ops i
  pub over : (i o d : ℕ) → k ≤ o → IsNearPair lat ops i o d → d + slice_index found o ≤ slice_index found i
