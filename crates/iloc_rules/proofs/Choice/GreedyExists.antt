-- Each block has a greedy schedule, since choosing rows ends: `laws::one_greedy_schedule` (`exists`).
use Rattle.iloc_rules.proofs.Common.{◌≡◌, ℕ, zero, suc, ◌+◌, ◌<◌, ◌≤◌, ◌≢◌, ◌⊎◌, List, [], ◌∷◌, ◌++◌, length, nat_lt, sum_by, refl, inl, inr, arith, ltb-false, ltb-true, length_push, list_all, range_with_len, Op, by_bool, latency, issue_cycle, row_at, slots, Latencies, Row, Counts, all_count, IsGreedy, IsGreedyBy, IsGreedyWhere, chosen, ready_where, priorities, renamed, IsChosenWhere}
use Rattle.iloc_rules.proofs.Basics.Members.{from_all, not_all, in_range_from, from_range}
use Rattle.iloc_rules.proofs.Basics.Slots.{stands_there}
use Rattle.iloc_rules.proofs.Choice.RowAfterRow.{chosen_more_where, chosen_is_greedy_where}
use Rattle.iloc_rules.proofs.Bounds.BusyCycles.{rows_bound_where}
use Rattle.iloc_rules.proofs.Basics.IssueCycles.{issue_cycle_back}

-- operation i is issued at cycle c or later
record WaitsAt (ops : List Op) (rows : List Row) (c : ℕ) : Type 0 where
  by : ℕ
  within : by < length ops
  waiting : c ≤ issue_cycle rows by

-- rows that were chosen, the last while an operation waited
record IsBegun (counts : Counts) (prios : List ℕ) (lat : Latencies) (ops : List Op) (rows : List Row) : Type 0 where
  so_far : IsChosenWhere counts prios lat ops rows
  last : (c : ℕ) → length rows ≡ c + 1 → WaitsAt ops rows c

-- each operation is issued in one of the rows
abbrev AllIssued : List Op → List Row → Type 0
AllIssued ops rows = (i : ℕ) → i < length ops → issue_cycle rows i < length rows

issued_or_waits : (ops : List Op) (rows : List Row) → AllIssued ops rows ⊎ WaitsAt ops rows (length rows)
issued_or_waits ops rows =
    by_bool (list_all (λ i. nat_lt (issue_cycle rows i) (length rows)) (range_with_len 0 (length ops)))
    (λ t. inl (λ i below. ltb-true (issue_cycle rows i) (length rows)
    (from_all (λ k. nat_lt (issue_cycle rows k) (length rows)) (range_with_len 0 (length ops)) i t
    (in_range_from 0 (length ops) i (omega arith) (omega arith)))))
    (grind (arith, from_range, ltb-false, not_all))

module _ (counts : Counts) (prios : List ℕ) (lat : Latencies) (ops : List Op) where
  next_row : List Row → Row
  next_row rows = chosen ops prios (ready_where counts lat ops rows (length rows))

  one_more : (rows : List Row) → IsBegun counts prios lat ops rows → WaitsAt ops rows (length rows)
      → IsBegun counts prios lat ops (rows ++ next_row rows ∷ [])
  unfolding next_row
  one_more rows begun waits = grind (arith, chosen_more_where, issue_cycle_back, length_push, next_row)

  to_the_end : (fuel : ℕ) (rows : List Row) → IsBegun counts prios lat ops rows → sum_by (latency lat) ops < length rows + fuel
      → (all : List Row) × IsBegun counts prios lat ops all × AllIssued ops all
  to_the_end zero rows begun enough = grind (arith, issued_or_waits ops rows, rows_bound_where counts prios lat ops rows)
  to_the_end (suc fuel) rows begun enough = elim (issued_or_waits ops rows) [
    | inl done ↦ (rows, begun, done)
    | inr waits ↦
        grind (arith, length_push, next_row, one_more, to_the_end fuel (rows ++ next_row rows ∷ []) (one_more rows begun waits))
  ]

  last_row_some : (rows : List Row) → IsBegun counts prios lat ops rows → AllIssued ops rows → (c : ℕ) → length rows ≡ c + 1
      → slots (row_at rows c) ≢ []
  last_row_some rows begun done c is empty = grind (arith, stands_there rows, begun.last c)

pub greedy_exists_where : (counts : Counts) (prios : List ℕ) (lat : Latencies) (block : List Op)
    → (rows : List Row) × IsGreedyWhere counts prios lat block (renamed block) rows
greedy_exists_where counts prios lat block =
    let ops : List Op = renamed block in
    let end = to_the_end counts prios lat ops (sum_by (latency lat) ops + 1) []
    (record { so_far = λ c below. absurd (omega arith); last = λ c is. absurd (omega arith) }) (omega arith) in
    (end.0, chosen_is_greedy_where counts prios lat block ops end.0 refl end.1.so_far end.2 (last_row_some counts prios lat ops end.0 end.1 end.2))

pub greedy_exists_by : (prios : List ℕ) (lat : Latencies) (block : List Op)
    → (rows : List Row) × IsGreedyBy prios lat block (renamed block) rows
greedy_exists_by = greedy_exists_where all_count

pub greedy_exists : (lat : Latencies) (block : List Op) → (rows : List Row) × IsGreedy lat block (renamed block) rows
greedy_exists lat block = greedy_exists_by (priorities lat (renamed block)) lat block
