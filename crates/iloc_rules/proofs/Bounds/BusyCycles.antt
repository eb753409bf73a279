-- While one waits another is at work: `laws::latencies_bound_the_cycles`, `schedule` (`most`).
use Rattle.iloc_rules.proofs.Common.{◌≡◌, ℕ, zero, suc, ◌+◌, ◌<◌, ◌≤◌, Bool, true, false, ◌⊎◌, List, [], ◌∷◌, map, length, nat_le, sum_by, sym, refl, ap, ◌∙◌, subst, inl, inr, true≢false, arith, le-leb, leb-false, leb-true, and_from, cases_eq, list_all, range_with_len, Op, Nop, by_bool, op_at, some_latency, latency, issue_cycle, row_at, slots, Latencies, Row, Counts, all_count, delays_where, IsGreedy, IsGreedyBy, IsGreedyWhere, chosen, is_ready_where, ready_where, priorities, IsChosenSoFar, IsChosenWhere, In}
use Rattle.iloc_timed.specs.Cycles.{cycles}
use Rattle.iloc_rules.proofs.Basics.Members.{contains_from, not_all, in_filter, from_map, in_range_from, from_range}
use Rattle.iloc_rules.proofs.Basics.Maxima.{fold_max_reached}
use Rattle.iloc_rules.proofs.Basics.Slots.{issued_within}
use Rattle.iloc_rules.proofs.Basics.IssueCycles.{issued_by}
use Rattle.iloc_rules.proofs.DelayPairs.FewerDelays.{delay_at_most_where}
use Rattle.iloc_rules.proofs.Choice.Ready.{is_over, all_over_where, IsReadyWhere, ready_from_where, ready_means_where}
use Rattle.iloc_rules.proofs.Choice.ChosenRows.{chosen_some}
use Rattle.iloc_rules.proofs.Choice.RowAfterRow.{was_ready}
use Rattle.iloc_rules.proofs.Bounds.CoveredCycles.{Covered, covered_sum, sum_by_numbers}

-- the lowest number below n that passes
record IsLowest (p : ℕ → Bool) (n : ℕ) : Type 0 where
  at : ℕ
  below : at < n
  passes : p at ≡ true
  others : (k : ℕ) → k < at → p k ≡ false

lowest : (p : ℕ → Bool) (n : ℕ) → IsLowest p n ⊎ ((k : ℕ) → k < n → p k ≡ false)
lowest p zero = inr (λ k below. absurd (omega arith))
lowest p (suc n) = elim (lowest p n) [
  | inl found ↦ grind arith
  | inr none ↦
      by_bool (p n)
      (λ t. inl (record { at = n; below = omega arith; passes = t; others = none }))
      (λ t. inr (λ k below. elim (cases_eq k n) [ inl here ↦ ap p here ∙ t | inr apart ↦ none k (omega arith) ]))
]

some_member : (is : List ℕ) → (is ≡ [] → ⊥) → (i : ℕ) × In is i
some_member [] some = absurd (some refl)
some_member (i ∷ is) some = (i, inl refl)

le_self : (n : ℕ) → n ≤ n
le_self n = omega arith

module _ (counts : Counts) (prios : List ℕ) (lat : Latencies) (ops : List Op) (rows : List Row)
    (so_far : IsChosenWhere counts prios lat ops rows) where
  size : ℕ → ℕ
  size h = latency lat (op_at ops h)

  -- where an operation is ready one is issued
  covered_by_ready : (c i : ℕ) → c < length rows → IsReadyWhere counts lat ops rows c i
      → Covered (issue_cycle rows) size (length ops) c
  unfolding size
  covered_by_ready c i below is =
      let row_is : row_at rows c ≡ chosen ops prios (ready_where counts lat ops rows c) = so_far c below in
      let member = some_member (slots (row_at rows c))
      (λ empty. chosen_some ops prios (ready_where counts lat ops rows c) i (ready_from_where counts lat ops rows c i is)
      (sym (ap slots row_is) ∙ empty)) in
      let early : issue_cycle rows member.0 ≤ c = issued_by rows c member.0 member.1 in
      let was = was_ready counts prios lat ops rows so_far c member.0 member.1 in
      grind (arith, some_latency)

  covered_by_delay : (c i : ℕ) → i < length ops → ((h : ℕ) → h < i → issue_cycle rows h < c)
      → list_all (all_over_where counts lat ops rows c i) (range_with_len 0 i) ≡ false
      → Covered (issue_cycle rows) size (length ops) c
  unfolding size
  covered_by_delay c i within earlier fails =
      let from = not_all (all_over_where counts lat ops rows c i) (range_with_len 0 i) fails in
      let place : (0 ≤ from.0) × (from.0 < 0 + i) = from_range 0 i from.0 from.1 in
      let delay = not_all (is_over rows c from.0) (delays_where (counts from.0 i) lat (op_at ops from.0) (op_at ops i)) from.2 in
      let late : c < issue_cycle rows from.0 + delay.0 = leb-false (issue_cycle rows from.0 + delay.0) c delay.2 in
      let most : delay.0 ≤ latency lat (op_at ops from.0) =
      delay_at_most_where (counts from.0 i) lat (op_at ops from.0) (op_at ops i) delay.0 (contains_from _ delay.0 delay.1) in
      record { by = from.0; within = omega arith; begun = omega arith; goes_on = omega arith }

  covered_by_lowest : (c i : ℕ) → c < length rows → i < length ops → c ≤ issue_cycle rows i
      → ((h : ℕ) → h < i → issue_cycle rows h < c) → Covered (issue_cycle rows) size (length ops) c
  covered_by_lowest c i below within waiting earlier =
      by_bool (list_all (all_over_where counts lat ops rows c i) (range_with_len 0 i))
      (λ t. covered_by_ready c i below (all_ready t))
      (λ t. covered_by_delay c i within earlier t)
    where
      all_ready : list_all (all_over_where counts lat ops rows c i) (range_with_len 0 i) ≡ true
          → IsReadyWhere counts lat ops rows c i
      all_ready t = ready_means_where counts lat ops rows c i (in_filter (is_ready_where counts lat ops rows c) (range_with_len 0 (length ops)) i
          (in_range_from 0 (length ops) i (omega arith) (omega arith))
          (and_from _ _ (le-leb c (issue_cycle rows i) waiting) t))

  -- while an operation waits, each cycle has one at work
  covered : (c i : ℕ) → c < length rows → i < length ops → c ≤ issue_cycle rows i
      → Covered (issue_cycle rows) size (length ops) c
  covered c i below within waiting = elim (lowest (λ k. nat_le c (issue_cycle rows k)) (length ops)) [
    | inl found ↦ covered_by_lowest c found.at below found.below (leb-true c (issue_cycle rows found.at) found.passes)
        (λ h less. leb-false c (issue_cycle rows h) (found.others h less))
    | inr none ↦ absurd (true≢false (sym (le-leb c (issue_cycle rows i) waiting) ∙ none i within))
  ]

  sizes : sum_by size (range_with_len 0 (length ops)) ≡ sum_by (latency lat) ops
  unfolding size
  sizes = sum_by_numbers (latency lat) ops Nop

  -- while an operation waits there are no more rows than cycles of work
  pub rows_bound_at : (i : ℕ) → i < length ops → length rows ≤ issue_cycle rows i
      → length rows ≤ sum_by (latency lat) ops
  rows_bound_at i within waits =
      subst (λ n. length rows ≤ n) sizes (covered_sum (issue_cycle rows) size (length ops) (length rows)
      (λ c below. covered c i below within (omega arith)))

  covered_to_end : (m h : ℕ) → h < length ops → issue_cycle rows h < length rows → m ≤ issue_cycle rows h + size h
      → (c : ℕ) → c < m → Covered (issue_cycle rows) size (length ops) c
  covered_to_end m h within issued end c below = grind (arith, covered c h)

  pub cycles_bound : ((i : ℕ) → i < length ops → issue_cycle rows i < length rows)
      → cycles lat ops rows ≤ sum_by (latency lat) ops
  unfolding size
  cycles_bound all_issued =
      elim (fold_max_reached 0 (map (λ k. issue_cycle rows k + latency lat (op_at ops k))
      (range_with_len 0 (length ops)))) [
        | inl none ↦ subst (λ n. n ≤ sum_by (latency lat) ops) (sym none) (omega arith)
        | inr there ↦
            let at = from_map (λ k. issue_cycle rows k + latency lat (op_at ops k)) (range_with_len 0 (length ops))
            (cycles lat ops rows) there in
            let place : (0 ≤ at.0) × (at.0 < 0 + length ops) = from_range 0 (length ops) at.0 at.1 in
            let within : at.0 < length ops = omega arith in
            subst (λ n. cycles lat ops rows ≤ n) sizes
            (covered_sum (issue_cycle rows) size (length ops) (cycles lat ops rows)
            (covered_to_end (cycles lat ops rows) at.0 within (all_issued at.0 within)
            (subst (λ n. cycles lat ops rows ≤ n) (sym at.2) (le_self (cycles lat ops rows)))))
      ]

pub rows_bound_where : (counts : Counts) (prios : List ℕ) (lat : Latencies) (ops : List Op) (rows : List Row) (i : ℕ)
    → IsChosenWhere counts prios lat ops rows
    → i < length ops → length rows ≤ issue_cycle rows i → length rows ≤ sum_by (latency lat) ops
rows_bound_where counts prios lat ops rows i so_far within waits = rows_bound_at counts prios lat ops rows so_far i within waits

-- a greedy schedule takes no more cycles than its operations one after another, whatever the priorities
pub busy_bound_where : (counts : Counts) (prios : List ℕ) (lat : Latencies) (block ops : List Op) (rows : List Row)
    → IsGreedyWhere counts prios lat block ops rows → cycles lat ops rows ≤ sum_by (latency lat) ops
busy_bound_where counts prios lat block ops rows greedy = cycles_bound counts prios lat ops rows greedy.each
    (λ i within. issued_within ops rows greedy.lawful.table i within)

-- the same where all count
pub rows_bound : (prios : List ℕ) (lat : Latencies) (ops : List Op) (rows : List Row) (i : ℕ) → IsChosenSoFar prios lat ops rows
    → i < length ops → length rows ≤ issue_cycle rows i → length rows ≤ sum_by (latency lat) ops
rows_bound = rows_bound_where all_count

pub busy_bound_by : (prios : List ℕ) (lat : Latencies) (block ops : List Op) (rows : List Row)
    → IsGreedyBy prios lat block ops rows → cycles lat ops rows ≤ sum_by (latency lat) ops
busy_bound_by = busy_bound_where all_count

pub busy_bound : (lat : Latencies) (block ops : List Op) (rows : List Row) → IsGreedy lat block ops rows
    → cycles lat ops rows ≤ sum_by (latency lat) ops
busy_bound lat block ops rows greedy = busy_bound_by (priorities lat ops) lat block ops rows greedy
