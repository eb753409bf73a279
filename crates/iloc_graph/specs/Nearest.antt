-- The delay pairs that are drawn: all others follow from them.
use Rattle.std.specs.Prelude.{ℕ, ◌+◌, ◌-◌, max, ◌||◌, ◌&&◌, not, if◌then◌else◌, Bool, List, [], ◌∷◌, map, filter, fold, length}
use Rattle.std.specs.List.{flat_map, list_any, range_with_len}
use Rattle.iloc_ops.specs.declared.op.Op.{Op}
use Rattle.iloc_meaning.specs.Trace.{op_at}
use Rattle.iloc_timed.specs.declared.latencies.Latencies.{Latencies}
use Rattle.iloc_timed.specs.declared.kind.Kind.{Kind}
use Rattle.iloc_timed.specs.Kinds.{is_output, is_store, kind}
use Rattle.iloc_rules.specs.declared.delay_pairs.Pair.{Pair}
use Rattle.iloc_rules.specs.declared.memory_rule.MemoryRule.{MemoryRule}
use Rattle.iloc_rules.specs.declared.memory_rule.MemoryRule.TheVariants.{Book, Address}
use Rattle.iloc_rules.specs.Apart.{by_address}
use Rattle.iloc_rules.specs.Delays.{uses_result, reads_stored, keeps_order_where, delays_where}
use Rattle.iloc_rules.specs.Rule.{counts_by}
use Rattle.iloc_addresses.specs.Near.{takes_over as takes_over_where}
use Rattle.iloc_sched.specs.Graph.Near.{takes_over}

-- whether operation `k` takes the place of operation `i` for operation `j`, by a rule of memory
abbrev pub takes_over_by : MemoryRule → List Op → ℕ → ℕ → ℕ → Bool
takes_over_by Book ops i j k = takes_over (op_at ops i) (op_at ops k)
takes_over_by Address ops i j k = takes_over_where (by_address ops) ops i j k

-- whether an operation between `i` and `j` takes the place of `i` for `j`
abbrev pub is_taken_over : MemoryRule → List Op → ℕ → ℕ → Bool
is_taken_over rule ops i j = list_any (takes_over_by rule ops i j) (range_with_len (i + 1) (j - (i + 1)))

-- whether an operation of kind `j` has to come after one of kind `i` by memory or outputs, given whether the two count
abbrev pub is_ordered : Bool → Kind → Kind → Bool
is_ordered counts i j = (counts && reads_stored i j) || keeps_order_where counts i j

-- whether operation `j` has to come after operation `i` by memory or outputs
abbrev pub comes_after : MemoryRule → List Op → ℕ → ℕ → Bool
comes_after rule ops j i = is_ordered (counts_by rule ops i j) (kind (op_at ops i)) (kind (op_at ops j))

-- whether operation `j` uses the result of operation `i`, or has to come after `i` by memory or outputs with none between
-- that takes the place of `i`
abbrev pub is_near : MemoryRule → List Op → ℕ → ℕ → Bool
is_near rule ops j i =
    uses_result (op_at ops i) (op_at ops j) || (comes_after rule ops j i && not (is_taken_over rule ops i j))

-- the earlier operations that are near to operation `j`, by rising number
abbrev pub near_to : MemoryRule → List Op → ℕ → List ℕ
near_to rule ops j = filter (is_near rule ops j) (range_with_len 0 j)

-- whether operation i is a store or an output, and one of `later` has to come after it
abbrev pub is_passed : MemoryRule → List Op → ℕ → List ℕ → Bool
is_passed rule ops i later =
    (is_store (kind (op_at ops i)) || is_output (kind (op_at ops i))) && list_any (λ k. comes_after rule ops k i) later

-- a rising list of operations, but for each that is passed by a later one of the list
abbrev pub unpassed : MemoryRule → List Op → List ℕ → List ℕ
unpassed rule ops [] = []
unpassed rule ops (i ∷ later) = if is_passed rule ops i later then unpassed rule ops later else i ∷ unpassed rule ops later

-- the operations from which an edge leads to operation `j`, by rising number
abbrev pub sources : MemoryRule → List Op → ℕ → List ℕ
sources rule ops j = unpassed rule ops (near_to rule ops j)

-- the longest delay that the first puts on the second, given whether the two count, 0 where there is none
abbrev pub longest_delay : Bool → Latencies → Op → Op → ℕ
longest_delay counts lat i j = fold max 0 (delays_where counts lat i j)

-- the pair from operation i to operation j with the longest delay
abbrev pub pair_of : MemoryRule → Latencies → List Op → ℕ → ℕ → Pair
pair_of rule lat ops j i =
    record { first = i; second = j; delay = longest_delay (counts_by rule ops i j) lat (op_at ops i) (op_at ops j) }

-- the nearest pairs to operation j
abbrev pub nearest_to : MemoryRule → Latencies → List Op → ℕ → List Pair
nearest_to rule lat ops j = map (pair_of rule lat ops j) (sources rule ops j)

-- all nearest pairs, in order of the later operation, then of the earlier one
abbrev pub nearest_pairs : MemoryRule → Latencies → List Op → List Pair
nearest_pairs rule lat ops = flat_map (nearest_to rule lat ops) (range_with_len 0 (length ops))
