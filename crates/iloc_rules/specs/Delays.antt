-- Which operation has to wait for which, and for how many cycles.
use Rattle.std.specs.Prelude.{ℕ, ◌<◌, ◌||◌, ◌&&◌, Bool, true, if◌then◌else◌, List, [], ◌∷◌, ◌++◌, length, Contains}
use Rattle.std.specs.List.{list_any}
use Rattle.iloc_ops.specs.declared.op.Op.{Op}
use Rattle.iloc_ops.specs.Registers.{used, defined}
use Rattle.iloc_meaning.specs.Trace.{op_at, is_register}
use Rattle.iloc_timed.specs.declared.kind.Kind.{Kind}
use Rattle.iloc_timed.specs.declared.latencies.Latencies.{Latencies}
use Rattle.iloc_timed.specs.Kinds.{kind, is_load, is_store, is_output, is_memory}
use Rattle.iloc_timed.specs.Latency.{latency}

-- whether j uses what i defines
abbrev pub uses_result : Op → Op → Bool
uses_result i j = list_any (λ r. is_register r (defined i)) (used j)

-- whether the second reads what the first may have stored
abbrev pub reads_stored : Kind → Kind → Bool
reads_stored i j = is_store i && (is_load j || is_output j)

-- whether the second has to come after the first: a store after what reads or writes memory, an output after an output
abbrev pub keeps_order : Kind → Kind → Bool
keeps_order i j = ((is_memory i || is_output i) && is_store j) || (is_output i && is_output j)

-- the same, given whether the two count: where they don't, only an output has to come after an output
abbrev pub keeps_order_where : Bool → Kind → Kind → Bool
keeps_order_where counts i j = (counts || (is_output i && is_output j)) && keeps_order i j

abbrev pub when : Bool → ℕ → List ℕ
when b d = if b then d ∷ [] else []

-- the delays by memory and outputs, given whether the two operations count
abbrev pub memory_delays_where : Bool → Latencies → Op → Op → List ℕ
memory_delays_where counts lat i j =
    when (counts && reads_stored (kind i) (kind j)) (latency lat i)
    ++ when (keeps_order_where counts (kind i) (kind j)) 1

-- the same where they do
abbrev pub memory_delays : Latencies → Op → Op → List ℕ
memory_delays lat i j = memory_delays_where true lat i j

-- the delays that an operation puts on a later one, given whether the two count
abbrev pub delays_where : Bool → Latencies → Op → Op → List ℕ
delays_where counts lat i j = when (uses_result i j) (latency lat i) ++ memory_delays_where counts lat i j

-- the delays that an operation puts on a later one
abbrev pub delays : Latencies → Op → Op → List ℕ
delays lat i j = delays_where true lat i j

-- Which pairs of operations count, by their numbers, the earlier one first: only such keep delays by memory.
abbrev pub Counts : Type 0
Counts = ℕ → ℕ → Bool

abbrev pub all_count : Counts
all_count i j = true

-- (`i`, `j`, `d`) is a delay pair by `counts`: operation `j` may be issued `d` cycles after operation `i` at the
-- earliest
pub record IsDelayPairWhere (counts : Counts) (lat : Latencies) (ops : List Op) (i j d : ℕ) : Type 0 where
  pub order : i < j
  pub within : j < length ops
  pub delay : Contains (delays_where (counts i j) lat (op_at ops i) (op_at ops j)) d

-- the same where all count
abbrev pub IsDelayPair : Latencies → List Op → ℕ → ℕ → ℕ → Type 0
IsDelayPair = IsDelayPairWhere all_count
