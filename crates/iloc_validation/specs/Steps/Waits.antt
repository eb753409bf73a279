-- How memory and outputs make the operations of a block wait, one after another.
use Rattle.std.specs.Prelude.{ℕ, zero, suc, ◌+◌, max, List, ◌++◌, map, fold}
use Rattle.iloc_ops.specs.declared.op.Op.{Op}
use Rattle.iloc_meaning.specs.Trace.{op_at}
use Rattle.iloc_timed.specs.declared.kind.Kind.{Kind}
use Rattle.iloc_timed.specs.declared.kind.Kind.TheVariants as K
use Rattle.iloc_timed.specs.declared.latencies.Latencies.{Latencies}
use Rattle.iloc_timed.specs.Kinds.{kind}
use Rattle.iloc_timed.specs.Latency.{latency_of}
use Rattle.iloc_rules.specs.Delays.{reads_stored, keeps_order, when}
use Rattle.iloc_validation.specs.declared.verification.waits.Waits.{Waits}

-- the delays by memory and outputs that an operation of a kind puts on a later one of another
abbrev pub memory_by : Latencies → Kind → Kind → List ℕ
memory_by lat a b = when (reads_stored a b) (latency_of lat a) ++ when (keeps_order a b) 1

-- the first cycle at which the first `j` operations of `block`, each issued at its `cycle`, let one of kind `k` be
-- issued
abbrev pub earliest : Latencies → List Op → (ℕ → ℕ) → ℕ → Kind → ℕ
earliest lat block cycle zero k = 0
earliest lat block cycle (suc j) k =
    fold max (earliest lat block cycle j k) (map (λ d. cycle j + d) (memory_by lat (kind (op_at block j)) k))

-- the same as the code has it
abbrev pub wait_of : Waits → Kind → ℕ
wait_of waits K.Load = waits.load
wait_of waits K.Store = waits.store
wait_of waits K.Output = waits.output
wait_of waits _ = 0

-- with one more operation, of this kind and issued at this cycle
abbrev pub noted : Latencies → Kind → ℕ → Waits → Waits
noted lat K.Load cycle waits = record waits { store = max waits.store (cycle + 1) }
noted lat K.Store cycle waits = record {
  load = max waits.load (cycle + lat.store);
  store = max waits.store (cycle + 1);
  output = max waits.output (cycle + lat.store);
}
noted lat K.Output cycle waits =
    record waits { store = max waits.store (cycle + 1); output = max waits.output (cycle + 1) }
noted lat _ cycle waits = waits
