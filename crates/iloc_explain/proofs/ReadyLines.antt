-- The line of a cycle by what is kept of the ready list.
use Rattle.iloc_explain.proofs.Common.{◌≡◌, ℕ, zero, suc, ◌+◌, ◌-◌, ◌<◌, ◌≤◌, Bool, true, false, not, ◌&&◌, List, [], ◌∷◌, ◌++◌, map, length, take, IfSome, ◌==◌, slice_index, Some, None, codes, Option, find, sym, refl, ap, ◌∙◌, inl, inr, append_assoc, append-nil, arith, take-append-le, flat_map, range_with_len, Op, by_bool, IsTable, holds, row_at, Latencies, MemoryRule, Row, first_of_all, ready_under, In, IsInOrder, IsKnown, Place, number, shown}
use Rattle.iloc_explain.specs.declared.ready_list.ReadyList.{ReadyList}
use Rattle.iloc_explain.specs.declared.ready_list.TheConstants.{MOST_LISTED}
use Rattle.iloc_explain.specs.CycleLines.{active_text, cycle_line, is_idle_before, last_cycle, line_from, more_text, next_text, paired, pairs_text, ready_text, slot_text, span_text, taken_text}
use Rattle.iloc_explain.specs.ReadyList.{first_ranked, is_idle, left_out, next_busy, next_ready}
use Rattle.iloc_explain.specs.Steps.CycleParts.{busy_by, front_by, last_by, next_by, taken_by}
use Rattle.iloc_explain.proofs.NextReady.{are_places, is_next, no_next, not_zero}
use Rattle.iloc_explain.proofs.ReadyOrder.{ArePlaces, count_is, found_is, ranked_is}

take_whole : {X : Type 0} (n : ℕ) (xs : List X) → length xs ≤ n → take n xs ≡ xs
take_whole zero [] few = refl
take_whole zero (x ∷ xs) few = absurd (omega arith)
take_whole (suc n) [] few = refl
take_whole (suc n) (x ∷ xs) few = ap (λ rest. x ∷ rest) (take_whole n xs (omega arith))

-- places with the priorities of their operations
shown_is : (prios : List ℕ) (places : List Place) → ((p : Place) → In places p → p.0.0 ≡ slice_index prios p.1)
    → map shown places ≡ paired (slice_index prios) (map number places)
shown_is prios [] ranked = refl
shown_is prios (p ∷ places) ranked =
    rw (ranked p (inl refl), shown_is prios places (λ q there. ranked q (inr there))) refl

paired_take : (value : ℕ → ℕ) (n : ℕ) (xs : List ℕ) → take n (paired value xs) ≡ paired value (take n xs)
paired_take value zero xs = refl
paired_take value (suc n) [] = refl
paired_take value (suc n) (x ∷ xs) = ap (λ rest. (x, value x) ∷ rest) (paired_take value n xs)

same_next : (ops : List Op) (row : Row) (a b : Option (ℕ × ℕ)) (left : Option ℕ) → (left ≡ None → a ≡ b)
    → next_text ops row left a ≡ next_text ops row left b
same_next ops row a b None same = ap (next_text ops row None) (same refl)
same_next ops row a b (Some j) same = refl

pub joined : (old front taken mark active end : List ℕ) → ((((old ++ front) ++ taken) ++ mark) ++ active) ++ end
    ≡ old ++ ((((front ++ taken) ++ mark) ++ active) ++ end)
joined old front taken mark active end = simp append_assoc

module _ (prios : List ℕ) (rule : MemoryRule) (lat : Latencies) (ops : List Op) (rows : List Row) (table : IsTable ops rows) (list : ReadyList) (c : ℕ)
    (known : IsKnown prios rule lat ops rows c list) (order : IsInOrder list) (within : c < length rows) where
  places : ArePlaces prios list.ready.keys (ready_under rule lat ops rows c)
  places = are_places prios rule lat ops rows table known.explained known.are list c known.is order

  -- whether anything is ready
  pub idle_is : (length list.ready.keys == 0) ≡ is_idle rule lat ops rows c
  idle_is = ap (λ n. n == 0) (sym (count_is prios list.ready.keys (ready_under rule lat ops rows c) places))

  pub listed_is : take MOST_LISTED (map shown list.ready.keys)
      ≡ paired (slice_index prios) (first_ranked MOST_LISTED prios (ready_under rule lat ops rows c))
  listed_is =
      ap (take MOST_LISTED) (shown_is prios list.ready.keys places.ranked)
      ∙ (paired_take (slice_index prios) MOST_LISTED (map number list.ready.keys)
      ∙ ap (paired (slice_index prios)) (sym (ranked_is prios MOST_LISTED list.ready.keys (ready_under rule lat ops rows c) places)))

  -- what comes, if nothing that is ready is left out
  next_is : first_of_all prios (left_out rule lat ops rows c) ≡ None
      → (busy_by (length rows) (next_by list) ≡ next_busy rule lat ops rows c) × (next_by list ≡ next_ready rule lat ops rows prios c)
  next_is none = by_keys list.coming.keys refl
    where
      by_keys : (keys : List (ℕ × Place)) → list.coming.keys ≡ keys
          → (busy_by (length rows) (next_by list) ≡ next_busy rule lat ops rows c) × (next_by list ≡ next_ready rule lat ops rows prios c)
      by_keys [] is =
          let are = no_next prios rule lat ops rows table known.explained known.are list c known.is order within none is in
          rw is (sym are.0, sym are.1)
      by_keys (q ∷ rest) is =
          let are = is_next prios rule lat ops rows table known.explained known.are list c known.is order within none q rest is in
          rw is (sym are.0, sym are.1)

  -- nothing is left out where nothing is ready
  none_left : ready_under rule lat ops rows c ≡ [] → first_of_all prios (left_out rule lat ops rows c) ≡ None
  none_left empty = rw empty refl

  last_is : last_by c (length rows) list ≡ last_cycle prios rule lat ops rows c
  last_is = by_ready (ready_under rule lat ops rows c) refl
    where
      count : length (ready_under rule lat ops rows c) ≡ length list.ready.keys
      count = count_is prios list.ready.keys (ready_under rule lat ops rows c) places

      by_ready : (xs : List ℕ) → ready_under rule lat ops rows c ≡ xs → last_by c (length rows) list ≡ last_cycle prios rule lat ops rows c
      by_ready [] empty = rw (← count, empty) (ap (λ b. b - 1) (next_is (none_left empty)).0)
      by_ready (x ∷ xs) some = rw (← count, some, not_zero x xs) refl

  pub front_is : front_by c (length rows) list
      ≡ codes "cycle " ++ span_text c (last_cycle prios rule lat ops rows c) ++ codes " ready " ++ ready_text prios rule lat ops rows c
  front_is = rw (last_is, listed_is, ← count_is prios list.ready.keys (ready_under rule lat ops rows c) places)
      (append_assoc (codes "cycle " ++ span_text c (last_cycle prios rule lat ops rows c) ++ codes " ready ")
      (pairs_text (codes ":") (paired (slice_index prios) (first_ranked MOST_LISTED prios (ready_under rule lat ops rows c))))
      (more_text (length (ready_under rule lat ops rows c) - MOST_LISTED)))

  pub taken_is : taken_by ops (row_at rows c) list ≡ taken_text prios rule lat ops rows c
  taken_is = ap (λ xs. codes " takes " ++ slot_text (row_at rows c).zero ++ codes " ; " ++ slot_text (row_at rows c).one ++ codes " next " ++ xs)
      (ap (λ left. next_text ops (row_at rows c) left (next_by list))
      (found_is prios (λ j. not (holds (row_at rows c) j)) list.ready.keys (ready_under rule lat ops rows c) places)
      ∙ same_next ops (row_at rows c) (next_by list) (next_ready rule lat ops rows prios c) (first_of_all prios (left_out rule lat ops rows c))
      (λ none. (next_is none).1))

  -- the line, part by part
  pub line_is : (old front taken mark active more : List ℕ) → front ≡ old ++ front_by c (length rows) list
      → taken ≡ front ++ taken_by ops (row_at rows c) list → mark ≡ taken ++ codes " active "
      → active ≡ mark ++ active_text prios rule lat ops rows c → more ≡ active ++ codes "\n"
      → more ≡ old ++ cycle_line prios rule lat ops rows c
  line_is old front taken mark active more by_front by_taken by_mark by_active by_more =
      by_more ∙ (ap (λ xs. xs ++ codes "\n") (by_active ∙ ap (λ xs. xs ++ active_text prios rule lat ops rows c)
      (by_mark ∙ ap (λ xs. xs ++ codes " active ") (by_taken ∙ (ap (λ xs. front ++ xs) taken_is
      ∙ ap (λ xs. xs ++ taken_text prios rule lat ops rows c) (by_front ∙ ap (λ xs. old ++ xs) front_is)))))
      ∙ joined old (codes "cycle " ++ span_text c (last_cycle prios rule lat ops rows c) ++ codes " ready " ++ ready_text prios rule lat ops rows c)
      (taken_text prios rule lat ops rows c) (codes " active ") (active_text prios rule lat ops rows c) (codes "\n"))

  -- a line begins with the cycle, or none does
  pub not_told : (was : Bool) (text : List ℕ) → was ≡ is_idle_before prios rule lat ops rows c → (was && (length list.ready.keys == 0)) ≡ true
      → text ≡ text ++ line_from prios rule lat ops rows c
  not_told was text is skips =
      let both : (is_idle_before prios rule lat ops rows c && is_idle rule lat ops rows c) ≡ true =
      ap (λ b. b && is_idle rule lat ops rows c) (sym is) ∙ (ap (λ b. was && b) (sym idle_is) ∙ skips) in
      let none : line_from prios rule lat ops rows c ≡ [] = rw both refl in
      sym (ap (λ xs. text ++ xs) none ∙ append-nil text)

  pub some_line : (was : Bool) → was ≡ is_idle_before prios rule lat ops rows c → (was && (length list.ready.keys == 0)) ≡ false
      → line_from prios rule lat ops rows c ≡ cycle_line prios rule lat ops rows c
  some_line was is none =
      let begins : (is_idle_before prios rule lat ops rows c && is_idle rule lat ops rows c) ≡ false =
      ap (λ b. b && is_idle rule lat ops rows c) (sym is) ∙ (ap (λ b. was && b) (sym idle_is) ∙ none) in
      rw begins refl

-- whether nothing is ready before the next cycle
pub idle_next : (prios : List ℕ) (rule : MemoryRule) (lat : Latencies) (ops : List Op) (rows : List Row) (c : ℕ)
    → is_idle_before prios rule lat ops rows (c + 1) ≡ is_idle rule lat ops rows c
idle_next prios rule lat ops rows c = let next : c + 1 ≡ suc c = omega arith in ap (is_idle_before prios rule lat ops rows) next

-- the lines of one more cycle
lines_more : (line : ℕ → List ℕ) (a n : ℕ) → flat_map line (range_with_len a (n + 1)) ≡ flat_map line (range_with_len a n) ++ line (a + n)
lines_more line a zero = append-nil (line a) ∙ ap line (omega arith)
lines_more line a (suc n) =
    let more : suc n + 1 ≡ suc (n + 1) = omega arith in
    let last : a + 1 + n ≡ a + suc n = omega arith in
    ap (λ k. flat_map line (range_with_len a k)) more
    ∙ (ap (λ xs. line a ++ xs) (lines_more line (a + 1) n)
    ∙ (sym (append_assoc (line a) (flat_map line (range_with_len (a + 1) n)) (line (a + 1 + n)))
    ∙ ap (λ k. flat_map line (range_with_len a (suc n)) ++ line k) last))

pub lines_next : (line : ℕ → List ℕ) (n : ℕ) (first text more : List ℕ) → text ≡ first ++ flat_map line (range_with_len 0 n)
    → more ≡ text ++ line n → more ≡ first ++ flat_map line (range_with_len 0 (n + 1))
lines_next line n first text more so_far added =
    let same : 0 + n ≡ n = omega arith in
    added ∙ (ap (λ xs. xs ++ line n) so_far
    ∙ (append_assoc first (flat_map line (range_with_len 0 n)) (line n)
    ∙ ap (λ xs. first ++ xs) (ap (λ k. flat_map line (range_with_len 0 n) ++ line k) (sym same) ∙ sym (lines_more line 0 n))))

-- what is found among places is known
pub found_known : (test : ℕ → Bool) (count : ℕ) (places : List Place) → ((p : Place) → In places p → p.1 < count)
    → IfSome (find test (map number places)) (λ j. j < count)
found_known test count [] each = tt
found_known test count (p ∷ places) each = by_bool (test p.1)
    (λ passes. rw passes (each p (inl refl)))
    (λ fails. rw fails (found_known test count places (λ q there. each q (inr there))))

-- the first of a list, which are so many or all
pub first_taken : {X : Type 0} (n : ℕ) (first rest all : List X) → first ++ rest ≡ all → length first ≡ n → first ≡ take n all
first_taken n first rest all whole size =
    sym (take_whole n first (omega arith)) ∙ (sym (take-append-le n first rest (omega arith)) ∙ ap (take n) whole)

pub all_taken : {X : Type 0} (n : ℕ) (first all : List X) → first ++ [] ≡ all → length first ≤ n → first ≡ take n all
all_taken n first all whole few = sym (take_whole n first few) ∙ (ap (take n) (sym (append-nil first)) ∙ ap (take n) whole)
