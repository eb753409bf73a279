-- The start of an operation: the earliest cycle at which its delays let it be issued.
use Rattle.std.specs.Prelude.{ℕ, zero, suc, ◌+◌, max, List, [], ◌∷◌, ◌++◌, length, map, fold, slice_index}
use Rattle.iloc_ops.specs.declared.op.Op.{Op}
use Rattle.iloc_meaning.specs.Trace.{op_at}
use Rattle.iloc_timed.specs.declared.latencies.Latencies.{Latencies}
use Rattle.iloc_rules.specs.Delays.{Counts, all_count, delays_where}

-- by `counts` and by `starts`: when the delays to operation `j` from each operation before operation `i` are over
abbrev pub arrivals_where : Counts → Latencies → List Op → List ℕ → ℕ → ℕ → List ℕ
arrivals_where counts lat ops starts j zero = []
arrivals_where counts lat ops starts j (suc i) =
    arrivals_where counts lat ops starts j i
    ++ map (λ d. d + slice_index starts i) (delays_where (counts i j) lat (op_at ops i) (op_at ops j))

-- the starts of the operations before operation j, and behind them that of operation j
abbrev pub with_start_where : Counts → Latencies → List Op → ℕ → List ℕ → List ℕ
with_start_where counts lat ops j starts = starts ++ fold max 0 (arrivals_where counts lat ops starts j j) ∷ []

abbrev pub starts_before_where : Counts → Latencies → List Op → ℕ → List ℕ
starts_before_where counts lat ops zero = []
starts_before_where counts lat ops (suc j) = with_start_where counts lat ops j (starts_before_where counts lat ops j)

-- by operation the earliest cycle that its delays leave: the greatest of 0 and of all d + start(i) over the delay pairs
-- (i, j, d)
abbrev pub starts_where : Counts → Latencies → List Op → List ℕ
starts_where counts lat ops = starts_before_where counts lat ops (length ops)

-- the start of operation i
abbrev pub start_where : Counts → Latencies → List Op → ℕ → ℕ
start_where counts lat ops i = slice_index (starts_where counts lat ops) i

-- the same where all count
abbrev pub starts : Latencies → List Op → List ℕ
starts = starts_where all_count

abbrev pub start : Latencies → List Op → ℕ → ℕ
start = start_where all_count
