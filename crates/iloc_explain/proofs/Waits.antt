-- What an operation waited for stands in the rows of the cycles before, as many as the longest delay has.
use Rattle.iloc_explain.proofs.Common.{◌≡◌, ℕ, suc, ◌+◌, ◌-◌, ◌<◌, ◌≤◌, min, true, ◌&&◌, List, [], ◌∷◌, ◌++◌, length, take, drop, nat_lt, ◌==◌, Some, None, Contains, filter, Option, option_to_list, sym, refl, ap, ◌∙◌, inl, inr, append_assoc, append-nil, arith, and_parts, eq-eqb, eqb-false, eqb-true, ne_eqb, flat_map-append, get_or-drop, get_or-take, length-drop, length-take, take-append-drop, take_more, filter-append, list_any, Op, by_bool, op_at, holds_one, holds_zero, issued_there, short_latency, kind, latency, IsTable, empty_row, holds, issue_cycle, row_at, slots, Latencies, MemoryRule, Row, contains_from, empty_from, from_any, from_append, from_filter, delay_at_least_where, delay_at_most_where, delays_where, counts_by, In, LONGEST_DELAY, ends_at, issue_order, waited_until}
use Rattle.iloc_timed.proofs.Counts.{any_contains}
use Rattle.iloc_rules.proofs.Choice.ChosenRows.{in_option}
use Rattle.iloc_explain.specs.Steps.Waits.{waits_for}

-- the operations of a row, unit 0 first
abbrev pub in_order : Row → List ℕ
in_order row = option_to_list row.zero ++ option_to_list row.one

pub from_row : (row : Row) (i : ℕ) → In (in_order row) i → holds row i ≡ true
from_row row i there = grind (arith, from_append, holds_one, holds_zero, in_option, option_to_list)

pub from_order : (rows : List Row) (i : ℕ) → In (issue_order rows) i
    → (c : ℕ) × (c < length rows) × In (in_order (row_at rows c)) i
from_order [] i there = absurd there
from_order (row ∷ rows) i there = elim (from_append (in_order row) (issue_order rows) i there) [
  | inl here ↦ (0, omega arith, here)
  | inr rest ↦
      let later = from_order rows i rest in
      (suc later.0, let within : later.0 < length rows = later.1 in omega arith, later.2)
]

module _ (rule : MemoryRule) (lat : Latencies) (ops : List Op) (rows : List Row) (table : IsTable ops rows) (j : ℕ) (here : j < length ops)
    (ready : ℕ) where
  issued_at : (c i : ℕ) → c < length rows → In (in_order (row_at rows c)) i → issue_cycle rows i ≡ c
  issued_at c i within there =
      let held : holds (row_at rows c) i ≡ true = from_row (row_at rows c) i there in
      let known : i < length ops = table.in_range c i (any_contains (slots (row_at rows c)) i held) in
      issued_there rows c i (table.once i known) within held

  -- what ends at the cycle was issued at most the longest delay before, and at least one cycle
  ends_near : (c i : ℕ) → issue_cycle rows i ≡ c → ends_at rule lat ops rows j ready i ≡ true → (c < ready) × (ready ≤ c + LONGEST_DELAY)
  ends_near c i at does =
      let both = and_parts (nat_lt i j)
      (list_any (λ d. issue_cycle rows i + d == ready) (delays_where (counts_by rule ops i j) lat (op_at ops i) (op_at ops j))) does in
      let one = from_any (λ d. issue_cycle rows i + d == ready) (delays_where (counts_by rule ops i j) lat (op_at ops i) (op_at ops j)) both.1 in
      let sum : issue_cycle rows i + one.0 ≡ ready = eqb-true (issue_cycle rows i + one.0) ready one.2 in
      let delay : Contains (delays_where (counts_by rule ops i j) lat (op_at ops i) (op_at ops j)) one.0 = contains_from (delays_where (counts_by rule ops i j) lat (op_at ops i) (op_at ops j)) one.0 one.1 in
      let some : 1 ≤ one.0 = delay_at_least_where (counts_by rule ops i j) lat (op_at ops i) (op_at ops j) one.0 delay in
      let most : one.0 ≤ latency lat (op_at ops i) = delay_at_most_where (counts_by rule ops i j) lat (op_at ops i) (op_at ops j) one.0 delay in
      let few : latency lat (op_at ops i) ≤ LONGEST_DELAY = short_latency lat (kind (op_at ops i)) in
      (omega arith, omega arith)

  -- rows of which none is issued at most the longest delay before have nothing that ends there
  none_in : (some : List Row) (at : ℕ → ℕ) → ((c : ℕ) → c < length some → at c < length rows)
      → ((c : ℕ) → c < length some → row_at some c ≡ row_at rows (at c))
      → ((c : ℕ) → c < length some → at c < ready → ready ≤ at c + LONGEST_DELAY → ⊥)
      → filter (ends_at rule lat ops rows j ready) (issue_order some) ≡ []
  none_in some at inside same far = empty_from _ (λ i there.
      let found = from_filter (ends_at rule lat ops rows j ready) (issue_order some) i there in
      let one = from_order some i found.0 in
      let issued : issue_cycle rows i ≡ at one.0 = issued_at (at one.0) i (inside one.0 one.1) (rw (← same one.0 one.1) one.2) in
      let near = ends_near (at one.0) i issued found.1 in
      far one.0 one.1 near.0 near.1)

  pub none_before : (n : ℕ) → n ≤ length rows → n ≤ ready - LONGEST_DELAY
      → [] ≡ filter (ends_at rule lat ops rows j ready) (issue_order (take n rows))
  none_before n few early =
      let size : length (take n rows) ≡ n = length-take n rows ∙ omega arith in
      sym (none_in (take n rows) (λ c. c) (λ c within. omega arith)
      (λ c within. let below : c < n = omega arith in get_or-take n rows c empty_row below)
      (λ c within before near. omega arith))

  -- one more row
  one_more : (c : ℕ) → c < length rows → c < ready
      → filter (ends_at rule lat ops rows j ready) (in_order (row_at rows c))
      ≡ filter (waits_for rule lat ops j (ready - c)) (option_to_list (row_at rows c).zero)
      ++ filter (waits_for rule lat ops j (ready - c)) (option_to_list (row_at rows c).one)
  one_more c within before =
      filter-append (ends_at rule lat ops rows j ready) (option_to_list (row_at rows c).zero) (option_to_list (row_at rows c).one)
      ∙ ap2 (slot_same (row_at rows c).zero (λ i is. holds_zero (row_at rows c) i is))
      (slot_same (row_at rows c).one (λ i is. holds_one (row_at rows c) i is))
    where
      ap2 : {ws xs ys zs : List ℕ} → ws ≡ xs → ys ≡ zs → ws ++ ys ≡ xs ++ zs
      ap2 first second = rw (first, second) refl

      test_same : (i : ℕ) → issue_cycle rows i ≡ c → ends_at rule lat ops rows j ready i ≡ waits_for rule lat ops j (ready - c) i
      test_same i at = ap (λ b. nat_lt i j && b) (any_alike (delays_where (counts_by rule ops i j) lat (op_at ops i) (op_at ops j)))
        where
          any_alike : (ds : List ℕ) → list_any (λ d. issue_cycle rows i + d == ready) ds ≡ list_any (λ d. d == ready - c) ds
          any_alike [] = refl
          any_alike (d ∷ ds) = rw (alike d, any_alike ds) refl
            where
              alike : (d : ℕ) → (issue_cycle rows i + d == ready) ≡ (d == ready - c)
              alike d = by_bool (d == ready - c)
                  (λ t. let sum : d ≡ ready - c = eqb-true d (ready - c) t in eq-eqb _ _ (omega arith) ∙ sym t)
                  (λ f. let apart : d ≡ ready - c → ⊥ = eqb-false d (ready - c) f in ne_eqb _ _ (λ sum. apart (omega arith)) ∙ sym f)

      slot_same : (slot : Option ℕ) → ((i : ℕ) → slot ≡ Some i → holds (row_at rows c) i ≡ true)
          → filter (ends_at rule lat ops rows j ready) (option_to_list slot) ≡ filter (waits_for rule lat ops j (ready - c)) (option_to_list slot)
      slot_same None held = refl
      slot_same (Some i) held =
          let there : holds (row_at rows c) i ≡ true = held i refl in
          let known : i < length ops = table.in_range c i (any_contains (slots (row_at rows c)) i there) in
          let at : issue_cycle rows i ≡ c = issued_there rows c i (table.once i known) within there in
          rw (test_same i at) refl

  pub row_waited : (c : ℕ) (waited first second : List ℕ) → c < length rows → c < ready
      → waited ≡ filter (ends_at rule lat ops rows j ready) (issue_order (take c rows))
      → first ≡ waited ++ filter (waits_for rule lat ops j (ready - c)) (option_to_list (row_at rows c).zero)
      → second ≡ first ++ filter (waits_for rule lat ops j (ready - c)) (option_to_list (row_at rows c).one)
      → second ≡ filter (ends_at rule lat ops rows j ready) (issue_order (take (c + 1) rows))
  row_waited c waited first second within before so_far by_zero by_one =
      by_one ∙ (ap (λ xs. xs ++ filter (waits_for rule lat ops j (ready - c)) (option_to_list (row_at rows c).one)) by_zero
      ∙ (append_assoc waited _ _
      ∙ (ap (λ xs. waited ++ xs) (sym (one_more c within before))
      ∙ (ap (λ xs. xs ++ filter (ends_at rule lat ops rows j ready) (in_order (row_at rows c))) so_far ∙ sym whole))))
    where
      whole : filter (ends_at rule lat ops rows j ready) (issue_order (take (c + 1) rows))
          ≡ filter (ends_at rule lat ops rows j ready) (issue_order (take c rows))
          ++ filter (ends_at rule lat ops rows j ready) (in_order (row_at rows c))
      whole =
          ap (λ xs. filter (ends_at rule lat ops rows j ready) (issue_order xs)) (take_more rows c empty_row within)
          ∙ (ap (filter (ends_at rule lat ops rows j ready)) (flat_map-append in_order (take c rows) (row_at rows c ∷ [])
          ∙ ap (λ xs. issue_order (take c rows) ++ xs) (append-nil (in_order (row_at rows c))))
          ∙ filter-append (ends_at rule lat ops rows j ready) (issue_order (take c rows)) (in_order (row_at rows c)))

  pub all_waited : (c : ℕ) → c ≡ min ready (length rows)
      → filter (ends_at rule lat ops rows j ready) (issue_order (take c rows)) ≡ waited_until rule lat ops rows j ready
  all_waited c is =
      let size : length (drop c rows) ≡ length rows - c = length-drop c rows in
      let rest : filter (ends_at rule lat ops rows j ready) (issue_order (drop c rows)) ≡ [] =
      none_in (drop c rows) (λ k. c + k) (λ k within. omega arith) (λ k within. get_or-drop c rows k empty_row)
      (λ k within before near. omega arith) in
      sym (ap (λ xs. filter (ends_at rule lat ops rows j ready) (issue_order xs)) (sym (take-append-drop c rows))
      ∙ (ap (filter (ends_at rule lat ops rows j ready)) (flat_map-append in_order (take c rows) (drop c rows))
      ∙ (filter-append (ends_at rule lat ops rows j ready) (issue_order (take c rows)) (issue_order (drop c rows))
      ∙ (ap (λ xs. filter (ends_at rule lat ops rows j ready) (issue_order (take c rows)) ++ xs) rest
      ∙ append-nil (filter (ends_at rule lat ops rows j ready) (issue_order (take c rows)))))))
