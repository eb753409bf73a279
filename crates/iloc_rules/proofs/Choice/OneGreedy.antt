-- Two greedy schedules of a block are equal: `laws::one_greedy_schedule` (`same`), `schedule` (`only`).
use Rattle.iloc_rules.proofs.Common.{◌≡◌, ℕ, zero, suc, ◌+◌, ◌-◌, ◌<◌, ◌≤◌, false, ◌⊎◌, List, [], ◌∷◌, length, sym, ap, ◌∙◌, inl, inr, arith, ext_get_or, cases_order, Op, by_bool, empty_row, holds, issue_cycle, row_at, slots, Latencies, Row, Counts, all_count, IsGreedy, IsGreedyBy, IsGreedyWhere, priorities}
use Rattle.iloc_rules.proofs.Basics.Members.{empty_from}
use Rattle.iloc_rules.proofs.Basics.Slots.{issued_within}
use Rattle.iloc_rules.proofs.Choice.Ready.{SameBelow, ready_same}
use Rattle.iloc_rules.proofs.Choice.RowAfterRow.{was_ready}

-- where the rows below cycle c are the same, so are the cycles of what they issue
cycles_agree : (rows rows' : List Row) (c i : ℕ) → c ≤ length rows → c ≤ length rows'
    → ((k : ℕ) → k < c → row_at rows k ≡ row_at rows' k) → SameBelow rows rows' c i
cycles_agree rows rows' zero i within within' same = inr (omega arith, omega arith)
cycles_agree [] rows' (suc c) i within within' same = absurd (omega arith)
cycles_agree (row ∷ rows) [] (suc c) i within within' same = absurd (omega arith)
cycles_agree (row ∷ rows) (row' ∷ rows') (suc c) i within within' same =
    let first : row ≡ row' = same 0 (omega arith) in
    by_bool (holds row i)
    (grind arith)
    (λ t.
    let also : holds row' i ≡ false = ap (λ r. holds r i) (sym first) ∙ t in
    rw (t, also) (next (cycles_agree rows rows' c i (omega arith) (omega arith)
    (λ k below. same (suc k) (omega arith)))))
  where
    next : SameBelow rows rows' c i → (issue_cycle rows i + 1 ≡ issue_cycle rows' i + 1)
        ⊎ ((suc c ≤ issue_cycle rows i + 1) × (suc c ≤ issue_cycle rows' i + 1))
    next (inl one) = inl (ap (λ n. n + 1) one)
    next (inr none) = inr (
      let first : c ≤ issue_cycle rows i = none.0 in
          omega arith,
      let second : c ≤ issue_cycle rows' i = none.1 in omega arith,
    )

module _ (counts : Counts) (prios : List ℕ) (lat : Latencies) (block ops : List Op) (rows rows' : List Row) (greedy : IsGreedyWhere counts prios lat block ops rows)
    (greedy' : IsGreedyWhere counts prios lat block ops rows') where
  rows_agree : (c : ℕ) → c ≤ length rows → c ≤ length rows' → (k : ℕ) → k < c → row_at rows k ≡ row_at rows' k
  rows_agree zero within within' k below = absurd (omega arith)
  rows_agree (suc c) within within' k below =
      grind (arith, cycles_agree rows rows' c, ready_same counts lat ops rows rows' c, greedy.each c, greedy'.each c, rows_agree c)

  -- the second is not the longer: its last row would be empty
  not_longer : length rows < length rows' → ⊥
  not_longer shorter =
      greedy'.last (length rows' - 1) (omega arith)
      (empty_from (slots (row_at rows' (length rows' - 1))) (λ i there.
      let was = was_ready counts prios lat ops rows' greedy'.each (length rows' - 1) i there in
      let issued : issue_cycle rows i < length rows = issued_within ops rows greedy.lawful.table i was.within in
      grind (arith, cycles_agree, rows_agree)))

greedy_rows : (counts : Counts) (prios : List ℕ) (lat : Latencies) (block ops : List Op) (rows rows' : List Row)
    → IsGreedyWhere counts prios lat block ops rows
    → IsGreedyWhere counts prios lat block ops rows' → rows ≡ rows'
greedy_rows counts prios lat block ops rows rows' greedy greedy' = ext_get_or empty_row rows rows' same_length (λ c below.
    rows_agree counts prios lat block ops rows rows' greedy greedy' (length rows) (omega arith) (omega (arith, same_length)) c below)
  where
    same_length : length rows ≡ length rows'
    same_length = elim (cases_order (length rows) (length rows')) [
      | inl same ↦ same
      | inr differs ↦ elim differs [
        | inl shorter ↦ absurd (not_longer counts prios lat block ops rows rows' greedy greedy' shorter)
        | inr longer ↦ absurd (not_longer counts prios lat block ops rows' rows greedy' greedy longer)
      ]
    ]

pub greedy_same_where : (counts : Counts) (prios : List ℕ) (lat : Latencies) (block ops ops' : List Op) (rows rows' : List Row) → IsGreedyWhere counts prios lat block ops rows
    → IsGreedyWhere counts prios lat block ops' rows' → (ops ≡ ops') × (rows ≡ rows')
greedy_same_where counts prios lat block ops ops' rows rows' greedy greedy' = grind (arith, greedy_rows counts prios lat block ops rows rows' greedy)

pub greedy_same_by : (prios : List ℕ) (lat : Latencies) (block ops ops' : List Op) (rows rows' : List Row) → IsGreedyBy prios lat block ops rows
    → IsGreedyBy prios lat block ops' rows' → (ops ≡ ops') × (rows ≡ rows')
greedy_same_by = greedy_same_where all_count

-- and by priorities that the operations determine
pub greedy_same_as : (prios : List Op → List ℕ) (lat : Latencies) (block ops ops' : List Op) (rows rows' : List Row)
    → IsGreedyBy (prios ops) lat block ops rows → IsGreedyBy (prios ops') lat block ops' rows'
    → (ops ≡ ops') × (rows ≡ rows')
greedy_same_as prios lat block ops ops' rows rows' greedy greedy' =
    grind (arith, greedy_same_by (prios ops) lat block ops ops' rows rows' greedy)

pub greedy_same : (lat : Latencies) (block ops ops' : List Op) (rows rows' : List Row) → IsGreedy lat block ops rows
    → IsGreedy lat block ops' rows' → (ops ≡ ops') × (rows ≡ rows')
greedy_same lat = greedy_same_as (priorities lat) lat
