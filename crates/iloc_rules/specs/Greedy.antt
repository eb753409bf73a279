-- The schedule that the scheduler chooses: in each cycle the first of the ready operations, and the first that can go
-- beside it.
use Rattle.std.specs.Prelude.{ℕ, ◌+◌, ◌≡◌, ◌≢◌, ◌<◌, ◌==◌, nat_le, nat_lt, ◌||◌, ◌&&◌, not, Bool, if◌then◌else◌, List, [], ◌∷◌, length, filter, slice_index, Option, Some, None}
use Rattle.std.specs.List.{list_all, range_with_len}
use Rattle.iloc_ops.specs.declared.op.Op.{Op}
use Rattle.iloc_meaning.specs.Trace.{op_at}
use Rattle.iloc_timed.specs.declared.kind.Kind.{Kind}
use Rattle.iloc_timed.specs.declared.latencies.Latencies.{Latencies}
use Rattle.iloc_timed.specs.declared.row.Row.{Row}
use Rattle.iloc_timed.specs.Kinds.{kind, is_mult, is_memory, is_output}
use Rattle.iloc_timed.specs.Rows.{empty_row, row_at, slots, issue_cycle, kind_in, is_some_kind}
use Rattle.iloc_rules.specs.Delays.{Counts, all_count, delays_where}
use Rattle.iloc_rules.specs.Priority.{priorities}
use Rattle.iloc_rules.specs.Lawful.{IsLawfulWhere}

-- whether each delay by `counts` from operation `h` to operation `i` is over at cycle `c`
abbrev pub are_over_where : Counts → Latencies → List Op → List Row → ℕ → ℕ → ℕ → Bool
are_over_where counts lat ops rows c i h =
    list_all (λ d. nat_le (issue_cycle rows h + d) c) (delays_where (counts h i) lat (op_at ops h) (op_at ops i))

-- whether operation i is ready at cycle c: it is not issued before, and each delay is over
abbrev pub is_ready_where : Counts → Latencies → List Op → List Row → ℕ → ℕ → Bool
is_ready_where counts lat ops rows c i =
    nat_le c (issue_cycle rows i) && list_all (are_over_where counts lat ops rows c i) (range_with_len 0 i)

-- the ready operations, by rising number
abbrev pub ready_where : Counts → Latencies → List Op → List Row → ℕ → List ℕ
ready_where counts lat ops rows c = filter (is_ready_where counts lat ops rows c) (range_with_len 0 (length ops))

-- the same where all count
abbrev pub ready : Latencies → List Op → List Row → ℕ → List ℕ
ready = ready_where all_count

-- i, unless j has the higher priority
abbrev pub better : List ℕ → ℕ → Option ℕ → ℕ
better prios i None = i
better prios i (Some j) = if nat_lt (slice_index prios i) (slice_index prios j) then j else i

-- the operation with the greatest of the priorities `prios`; ties go to the lower number; the list rises
abbrev pub first_of_all : List ℕ → List ℕ → Option ℕ
first_of_all prios [] = None
first_of_all prios (i ∷ is) = Some (better prios i (first_of_all prios is))

-- whether the units let two operations be issued together
abbrev pub may_stand_beside : Kind → Kind → Bool
may_stand_beside a b =
    not (is_memory a && is_memory b) && not (is_mult a && is_mult b) && not (is_output a && is_output b)

-- whether b is another operation than a, and may be issued together with it
abbrev pub can_go_beside : List Op → ℕ → ℕ → Bool
can_go_beside ops a b = not (a == b) && may_stand_beside (kind (op_at ops a)) (kind (op_at ops b))

-- a goes on unit 1 where it is a product or b a memory operation, else on unit 0; b goes on the other
abbrev pub on_units : List Op → ℕ → Option ℕ → Row
on_units ops a b =
    if is_mult (kind (op_at ops a)) || is_some_kind is_memory (kind_in ops b)
    then record { zero = b; one = Some a } else record { zero = Some a; one = b }

-- a, and the first of the others that can go beside it
abbrev pub chosen_with : List Op → List ℕ → List ℕ → Option ℕ → Row
chosen_with ops prios candidates None = empty_row
chosen_with ops prios candidates (Some a) =
    on_units ops a (first_of_all prios (filter (can_go_beside ops a) candidates))

-- the choice from the candidates
abbrev pub chosen : List Op → List ℕ → List ℕ → Row
chosen ops prios candidates = chosen_with ops prios candidates (first_of_all prios candidates)

-- The operations `ops` in `rows` are the schedule of `block` that is greedy by the priorities `prios`, one for each
-- renamed operation, and by `counts`: they are lawful, the last row is not empty, and each row is the choice from what
-- is ready.
pub record IsGreedyWhere (counts : Counts) (prios : List ℕ) (lat : Latencies) (block ops : List Op) (rows : List Row)
    : Type 0 where
  pub lawful : IsLawfulWhere counts lat block ops rows
  pub last : (c : ℕ) → length rows ≡ c + 1 → slots (row_at rows c) ≢ []
  pub each : (c : ℕ) → c < length rows → row_at rows c ≡ chosen ops prios (ready_where counts lat ops rows c)

-- the same where all count
abbrev pub IsGreedyBy : List ℕ → Latencies → List Op → List Op → List Row → Type 0
IsGreedyBy = IsGreedyWhere all_count

-- the greedy schedule of the block: by the longest chains of delays
abbrev pub IsGreedy : Latencies → List Op → List Op → List Row → Type 0
IsGreedy lat block ops rows = IsGreedyBy (priorities lat ops) lat block ops rows
