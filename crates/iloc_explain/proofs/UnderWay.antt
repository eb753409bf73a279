-- What is under way in a cycle was issued in the rows of the cycles before, as many as the longest latency has.
use Rattle.iloc_explain.proofs.Common.{◌≡◌, ℕ, ◌+◌, ◌-◌, ◌<◌, ◌≤◌, true, List, [], ◌∷◌, ◌++◌, length, take, IfSome, nat_lt, Some, None, filter, Option, option_to_list, sym, refl, ap, ◌∙◌, append_assoc, append-nil, arith, ltb-true, flat_map-append, get_or-take, length-take, map-append, take_more, filter-append, Op, op_at, holds_one, holds_zero, issued_there, short_latency, kind, latency, IsTable, empty_row, holds, issue_cycle, row_at, slots, Latencies, Row, empty_from, from_filter, LONGEST_DELAY, issue_order}
use Rattle.iloc_timed.proofs.Counts.{any_contains}
use Rattle.iloc_explain.specs.CycleLines.{paired}
use Rattle.iloc_explain.specs.ReadyList.{arrival}
use Rattle.iloc_explain.proofs.Waits.{from_order, from_row, in_order}

module _ (lat : Latencies) (ops : List Op) (rows : List Row) (table : IsTable ops rows) (cycle : ℕ) where
  held_then : (c i : ℕ) → c < length rows → holds (row_at rows c) i ≡ true → (i < length ops) × (issue_cycle rows i ≡ c)
  held_then c i within held =
      let known : i < length ops = table.in_range c i (any_contains (slots (row_at rows c)) i held) in
      (known, issued_there rows c i (table.once i known) within held)

  some_from : {P : ℕ → Type 0} → (o : Option ℕ) → ((i : ℕ) → o ≡ Some i → P i) → IfSome o P
  some_from None each = tt
  some_from (Some i) each = each i refl

  pub zero_issued : (c : ℕ) → c < length rows → IfSome (row_at rows c).zero (λ i. issue_cycle rows i ≡ c)
  zero_issued c within = some_from (row_at rows c).zero (λ i is. (held_then c i within (holds_zero (row_at rows c) i is)).1)

  pub one_issued : (c : ℕ) → c < length rows → IfSome (row_at rows c).one (λ i. issue_cycle rows i ≡ c)
  one_issued c within = some_from (row_at rows c).one (λ i is. (held_then c i within (holds_one (row_at rows c) i is)).1)

  abbrev pub late_of : List ℕ → List ℕ
  late_of xs = filter (λ i. nat_lt cycle (arrival lat ops rows i)) xs

  -- what was issued so long before has arrived
  pub none_late : (n : ℕ) → n ≤ length rows → n ≤ cycle - LONGEST_DELAY
      → [] ≡ paired (arrival lat ops rows) (late_of (issue_order (take n rows)))
  none_late n few early = ap (paired (arrival lat ops rows)) (sym (empty_from (late_of (issue_order (take n rows))) (λ i there.
      let found = from_filter (λ k. nat_lt cycle (arrival lat ops rows k)) (issue_order (take n rows)) i there in
      let one = from_order (take n rows) i found.0 in
      let size : length (take n rows) ≡ n = length-take n rows ∙ omega arith in
      let short : one.0 < length (take n rows) = one.1 in
      let below : one.0 < n = omega arith in
      let same : row_at (take n rows) one.0 ≡ row_at rows one.0 = get_or-take n rows one.0 empty_row below in
      let at : issue_cycle rows i ≡ one.0 = (held_then one.0 i (omega arith) (from_row (row_at rows one.0) i (rw (← same) one.2))).1 in
      let few : latency lat (op_at ops i) ≤ LONGEST_DELAY = short_latency lat (kind (op_at ops i)) in
      let after : cycle < arrival lat ops rows i = ltb-true cycle (arrival lat ops rows i) found.1 in
      absurd (omega arith))))

  whole : (c : ℕ) → c < length rows
      → late_of (issue_order (take (c + 1) rows)) ≡ late_of (issue_order (take c rows)) ++ late_of (in_order (row_at rows c))
  whole c within =
      ap (λ xs. late_of (issue_order xs)) (take_more rows c empty_row within)
      ∙ (ap late_of (flat_map-append in_order (take c rows) (row_at rows c ∷ [])
      ∙ ap (λ xs. issue_order (take c rows) ++ xs) (append-nil (in_order (row_at rows c))))
      ∙ filter-append (λ i. nat_lt cycle (arrival lat ops rows i)) (issue_order (take c rows)) (in_order (row_at rows c)))

  -- of a row that which has not arrived, slot by slot
  both_late : (c : ℕ) → paired (arrival lat ops rows) (late_of (in_order (row_at rows c)))
      ≡ paired (arrival lat ops rows) (late_of (option_to_list (row_at rows c).zero))
      ++ paired (arrival lat ops rows) (late_of (option_to_list (row_at rows c).one))
  both_late c =
      ap (paired (arrival lat ops rows)) (filter-append (λ i. nat_lt cycle (arrival lat ops rows i))
      (option_to_list (row_at rows c).zero) (option_to_list (row_at rows c).one))
      ∙ map-append (λ n. (n, arrival lat ops rows n)) (late_of (option_to_list (row_at rows c).zero))
      (late_of (option_to_list (row_at rows c).one))

  pub row_late : (c : ℕ) (found first second : List (ℕ × ℕ)) → c < length rows
      → found ≡ paired (arrival lat ops rows) (late_of (issue_order (take c rows)))
      → first ≡ found ++ paired (arrival lat ops rows) (late_of (option_to_list (row_at rows c).zero))
      → second ≡ first ++ paired (arrival lat ops rows) (late_of (option_to_list (row_at rows c).one))
      → second ≡ paired (arrival lat ops rows) (late_of (issue_order (take (c + 1) rows)))
  row_late c found first second within so_far by_zero by_one =
      let zeros = paired (arrival lat ops rows) (late_of (option_to_list (row_at rows c).zero)) in
      let ones = paired (arrival lat ops rows) (late_of (option_to_list (row_at rows c).one)) in
      let before = paired (arrival lat ops rows) (late_of (issue_order (take c rows))) in
      by_one ∙ (ap (λ xs. xs ++ ones) by_zero
      ∙ (append_assoc found zeros ones
      ∙ (ap (λ xs. xs ++ (zeros ++ ones)) so_far
      ∙ (ap (λ xs. before ++ xs) (sym (both_late c))
      ∙ (sym (map-append (λ n. (n, arrival lat ops rows n)) (late_of (issue_order (take c rows))) (late_of (in_order (row_at rows c))))
      ∙ ap (paired (arrival lat ops rows)) (sym (whole c within)))))))
