-- A bound on the cycles of a lawful schedule of a block, by counting. Of the operations that share slots it counts the
-- ones that can't be issued before a cycle and have many cycles after them.
use Rattle.std.specs.Prelude.{ℕ, ◌+◌, ◌-◌, ◌/◌, max, min, nat_le, Bool, true, if◌then◌else◌, List, [], ◌∷◌, ◌++◌, map, fold, filter, count_by, length, slice_index}
use Rattle.std.specs.List.{range_with_len}
use Rattle.iloc_ops.specs.declared.op.Op.{Op}
use Rattle.iloc_meaning.specs.Trace.{op_at}
use Rattle.iloc_timed.specs.declared.kind.Kind.{Kind}
use Rattle.iloc_timed.specs.declared.latencies.Latencies.{Latencies}
use Rattle.iloc_timed.specs.Kinds.{kind, is_load, is_store, is_memory, is_mult, is_output}
use Rattle.iloc_timed.specs.Latency.{latency}
use Rattle.iloc_rules.specs.Delays.{when}
use Rattle.iloc_rules.specs.Priority.{reaches}
use Rattle.iloc_rules.specs.Starts.{start}
use Rattle.iloc_rules.specs.Renaming.{renamed}

-- how many of `tails` are at least `q`
abbrev pub count_from : List ℕ → ℕ → ℕ
count_from tails q = count_by (λ tail. nat_le q tail) tails

-- Of n operations that are issued from a first cycle on, of which a row can hold `width`, one is issued in cycle
-- first + (n - 1) / width or later. Where they are those whose tail is at least q, at least q cycles are left then.
abbrev pub cycles_from : ℕ → ℕ → List ℕ → ℕ → ℕ
cycles_from first width tails q = first + (count_from tails q - 1) / width + q

-- what operations with `tails` need: the greatest of the numbers above over all tails; 0 where there is none
abbrev pub needed : ℕ → ℕ → List ℕ → ℕ
needed first width tails = fold max 0 (map (cycles_from first width tails) tails)

-- of `tails`, one for each operation, the ones of the loads up to the first store
abbrev pub load_tails : List Op → List ℕ → List ℕ
load_tails [] tails = []
load_tails (op ∷ ops) [] = []
load_tails (op ∷ ops) (tail ∷ tails) =
    if is_store (kind op) then [] else load_tails ops tails ++ when (is_load (kind op)) tail

-- what the loads between a store and the next need: they all wait for its latency, and a row can hold one
abbrev pub behind : Latencies → Op → List Op → List ℕ → ℕ
behind lat op later tails = if is_store (kind op) then needed (latency lat op) 1 (load_tails later tails) else 0

-- the tails of the later operations, and before them that of the operation
abbrev pub with_tail : Latencies → Op → List Op → List ℕ → List ℕ
with_tail lat op later tails =
    max (behind lat op later tails) (fold max (latency lat op) (reaches lat op later tails)) ∷ tails

-- By operation its tail, how many cycles are left at least from its issue: the greatest of its latency, of all
-- d + tail(j) over its delay pairs (i, j, d), and for a store of what the loads up to the next one need.
abbrev pub tails : Latencies → List Op → List ℕ
tails lat [] = []
tails lat (op ∷ later) = with_tail lat op later (tails lat later)

-- the tail of operation i
abbrev pub tail : Latencies → List Op → ℕ → ℕ
tail lat ops i = slice_index (tails lat ops) i

-- the operations whose kind passes `test`
abbrev pub of_kind : (Kind → Bool) → List Op → List ℕ
of_kind test ops = filter (λ i. test (kind (op_at ops i))) (range_with_len 0 (length ops))

-- what the operations need whose kind passes `test` and that can't be issued before the cycle `first`
abbrev pub needed_after : ℕ → ℕ → (Kind → Bool) → Latencies → List Op → ℕ
needed_after first width test lat ops =
    needed first width (map (tail lat ops) (filter (λ i. nat_le first (start lat ops i)) (of_kind test ops)))

-- the lowest of some numbers, 0 where there are none
abbrev pub lowest : List ℕ → ℕ
lowest [] = 0
lowest (n ∷ ns) = fold min n ns

-- the lowest start of an operation whose kind passes `test`
abbrev pub first_start : (Kind → Bool) → Latencies → List Op → ℕ
first_start test lat ops = lowest (map (start lat ops) (of_kind test ops))

-- what the operations whose kind passes `test` need, all of them, or without the ones of the lowest start
abbrev pub needed_by : ℕ → (Kind → Bool) → Latencies → List Op → ℕ
needed_by width test lat ops = max (needed_after (first_start test lat ops) width test lat ops)
    (needed_after (first_start test lat ops + 1) width test lat ops)

-- for the memory operations, the products and the outputs, of which a row can hold one, and for all operations, of which
-- it can hold two
abbrev pub least_of : Latencies → List Op → ℕ
least_of lat ops =
    max (needed_by 1 is_memory lat ops) (max (needed_by 1 is_mult lat ops)
    (max (needed_by 1 is_output lat ops) (needed_by 2 (λ k. true) lat ops)))

-- the same of a block
abbrev pub least : Latencies → List Op → ℕ
least lat block = least_of lat (renamed block)
