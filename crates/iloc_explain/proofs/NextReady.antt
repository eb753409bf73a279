-- What the ready list says of a cycle of a schedule: what is ready_under, and what is ready next.
use Rattle.iloc_explain.proofs.Common.{◌≡◌, ℕ, zero, suc, ◌+◌, ◌-◌, ◌<◌, ◌≤◌, Bool, true, false, not, ◌⊎◌, List, [], ◌∷◌, length, ◌==◌, slice_get, slice_index, Some, None, option_map, sym, refl, ap, ◌∙◌, subst, inl, inr, arith, eqb-false, eqb-true, ne_eqb, none-some, slice_get_within, IsStrictlySortedBy, Op, by_bool, issued_within, issued_there, stands_there, IsTable, holds, issue_cycle, row_at, times_issued, Latencies, MemoryRule, Row, empty_from, in_filter, counts_by, first_of_all, ready_under, GoesBefore, In, IsComing, IsInOrder, IsReadyList, IsReadyPlace, IsRowAt, Place, coming_cmp, number, place_at, Explained}
use Rattle.std.specs.declared.cmp.Ordering.TheVariants.{Less}
use Rattle.std.proofs.lemmas.Map.Keys.{sorted_head}
use Rattle.iloc_rules.proofs.Choice.FirstOfAll.{first_is, first_none, first_some, goes_before_self}
use Rattle.iloc_rules.proofs.Choice.Ready.{ready_from_where, ready_means_where, ready_rises_where}
use Rattle.iloc_explain.specs.declared.ready_list.ReadyList.{ReadyList}
use Rattle.iloc_explain.specs.Explained.{AreExplained, IsExplained}
use Rattle.iloc_explain.specs.ReadyList.{busy_from, is_idle, left_out, next_busy, next_ready}
use Rattle.iloc_explain.proofs.ReadyOrder.{ArePlaces, all_in, cmp_less, coming_less}

-- what has members is not empty
pub not_zero : (x : ℕ) (xs : List ℕ) → (length (x ∷ xs) == 0) ≡ false
not_zero x xs = ne_eqb (length (x ∷ xs)) 0 (λ is. let size : suc (length xs) ≡ 0 = is in absurd (omega arith))

module _ (prios : List ℕ) (rule : MemoryRule) (lat : Latencies) (ops : List Op) (rows : List Row) (table : IsTable ops rows) (es : List Explained)
    (are : AreExplained prios rule lat ops rows es) where
  known : (j : ℕ) (own : Explained) → slice_get es j ≡ Some own → j < length ops
  known j own there =
      let size : length es ≡ length ops = are.all in
      let within : j < length es = slice_get_within es j own there in
      omega arith

  there_is : (j : ℕ) → j < length ops → (own : Explained) × (slice_get es j ≡ Some own)
  there_is j within = let size : length es ≡ length ops = are.all in some es j (omega arith)
    where
      some : (xs : List Explained) (k : ℕ) → k < length xs → (own : Explained) × (slice_get xs k ≡ Some own)
      some [] k below = absurd (omega arith)
      some (x ∷ xs) zero below = (x, refl)
      some (x ∷ xs) (suc k) below = some xs k (omega arith)

  -- the row issues what is explained as issued then
  pub issued_rows : (c : ℕ) → c < length rows → IsRowAt es (row_at rows c) c
  issued_rows c within = record {
    all = λ j own there here.
        let is : IsExplained prios rule lat ops rows j own = are.each j own there in
        let at : issue_cycle rows j ≡ c = sym is.cycle ∙ here in
        let once : times_issued rows j ≡ 1 = table.once j (known j own there) in
        subst (λ n. holds (row_at rows n) j ≡ true) at (stands_there rows j (omega arith)).1;
    only = λ j own there held.
        let is : IsExplained prios rule lat ops rows j own = are.each j own there in
        is.cycle ∙ issued_there rows c j (table.once j (known j own there)) within held;
  }

  -- an operation is ready at the cycles from its own on, up to its issue
  ready_by : (b j : ℕ) (own : Explained) → slice_get es j ≡ Some own → own.ready ≤ b → b ≤ own.cycle → In (ready_under rule lat ops rows b) j
  ready_by b j own there begun waits =
      let is : IsExplained prios rule lat ops rows j own = are.each j own there in
      let at : own.cycle ≡ issue_cycle rows j = is.cycle in
      ready_from_where (counts_by rule ops) lat ops rows b j record {
        within = known j own there;
        waiting = omega arith;
        over = λ h d pair. let over : issue_cycle rows h + d ≤ own.ready = is.ready.over h d pair in omega arith;
      }

  by_ready : (b j : ℕ) → In (ready_under rule lat ops rows b) j
      → (own : Explained) × (slice_get es j ≡ Some own) × (own.ready ≤ b) × (b ≤ own.cycle)
  by_ready b j inside =
      let ready = ready_means_where (counts_by rule ops) lat ops rows b j inside in
      let found = there_is j ready.within in
      let is : IsExplained prios rule lat ops rows j found.0 = are.each j found.0 found.1 in
      let at : found.0.cycle ≡ issue_cycle rows j = is.cycle in
      let waiting : b ≤ issue_cycle rows j = ready.waiting in (
        found.0,
        found.1,
        elim is.ready.earliest [
          | inl none ↦ let start : found.0.ready ≡ 0 = none in omega arith
          | inr (h, waits) ↦
              let over : issue_cycle rows h + waits.delay ≤ b = ready.over h waits.delay waits.pair in
              let ends : issue_cycle rows h + waits.delay ≡ found.0.ready = waits.ends in
              omega arith
        ],
        omega arith,
      )

  module _ (list : ReadyList) (c : ℕ) (is : IsReadyList es c list) (order : IsInOrder list) where
    -- the places are those of what is ready
    pub are_places : ArePlaces prios list.ready.keys (ready_under rule lat ops rows c)
    are_places = record {
      rises = ready_rises_where (counts_by rule ops) lat ops rows c;
      order = order.ready;
      ranked = λ p there.
          let at = is.kept.ready p there in
          let own : IsExplained prios rule lat ops rows p.1 at.own = are.each p.1 at.own at.there in
          ap (λ (q : Place). q.0.0) at.place ∙ own.priority;
      only = λ p there.
          let at = is.kept.ready p there in
          ready_by c p.1 at.own at.there at.ready at.waits;
      all = λ j there.
          let found = by_ready c j there in
          let begun : found.0.ready ≤ c = found.2 in
          let waits : c ≤ found.0.cycle = found.3 in
          elim (is.kept.all j found.0 found.1 (omega arith) waits) [
            | inl inside ↦ (place_at found.0 j, inside, refl)
            | inr coming ↦ let later : c < found.0.ready = is.later (found.0.ready, place_at found.0 j) coming in absurd (omega arith)
          ];
    }

    pub known_place : (p : Place) → In list.ready.keys p → p.1 < length ops
    known_place p there = let at = is.kept.ready p there in known p.1 at.own at.there

    module _ (within : c < length rows) (none : first_of_all prios (left_out rule lat ops rows c) ≡ None) where
      -- what is ready later comes
      comes : (b j : ℕ) → c < b → In (ready_under rule lat ops rows b) j
          → (own : Explained) × (slice_get es j ≡ Some own) × (own.ready ≤ b) × In list.coming.keys (own.ready, place_at own j)
      comes b j after there =
          let found = by_ready b j there in
          let begun : found.0.ready ≤ b = found.2 in
          let waits : b ≤ found.0.cycle = found.3 in (
            found.0,
            found.1,
            begun,
            elim (is.kept.all j found.0 found.1 (omega arith) (omega arith)) [
              | inl inside ↦
                  let at : IsReadyPlace es c (place_at found.0 j) = is.kept.ready (place_at found.0 j) inside in
                  let now : In (ready_under rule lat ops rows c) j = are_places.only (place_at found.0 j) inside in
                  let out : holds (row_at rows c) j ≡ false = held_not (holds (row_at rows c) j) refl found.0 found.1 waits in
                  let left = in_filter (λ i. not (holds (row_at rows c) i)) (ready_under rule lat ops rows c) j now (rw out refl) in
                  let some = first_some prios (left_out rule lat ops rows c) j left in
                  absurd (none-some some.0 (sym none ∙ some.1))
              | inr coming ↦ coming
            ],
          )
        where
          held_not : (held : Bool) → held ≡ holds (row_at rows c) j → (own : Explained) → slice_get es j ≡ Some own → b ≤ own.cycle
              → holds (row_at rows c) j ≡ false
          held_not false is own there waits = sym is
          held_not true is own there waits =
              let at : own.cycle ≡ c = (issued_rows c within).only j own there (sym is) in absurd (omega arith)

      idle_at : (b : ℕ) → ((j : ℕ) → In (ready_under rule lat ops rows b) j → ⊥) → is_idle rule lat ops rows b ≡ true
      idle_at b none_ready = rw (empty_from (ready_under rule lat ops rows b) none_ready) refl

      busy_at : (b j : ℕ) → In (ready_under rule lat ops rows b) j → is_idle rule lat ops rows b ≡ false
      busy_at b j there = by_list (ready_under rule lat ops rows b) there
        where
          by_list : (xs : List ℕ) → In xs j → (length xs == 0) ≡ false
          by_list [] there = absurd there
          by_list (x ∷ xs) there = not_zero x xs

      found_busy : (n a b : ℕ) → a ≤ b → b < a + n → ((k : ℕ) → a ≤ k → k < b → is_idle rule lat ops rows k ≡ true)
          → is_idle rule lat ops rows b ≡ false → busy_from rule lat ops rows n a ≡ b
      found_busy zero a b above below idle busy = absurd (omega arith)
      found_busy (suc n) a b above below idle busy = by_bool (a == b)
          (λ t. let same : a ≡ b = eqb-true a b t in rw (ap (is_idle rule lat ops rows) same ∙ busy) same)
          (λ f.
          let apart : a ≡ b → ⊥ = eqb-false a b f in
          rw (idle a (omega arith) (omega arith))
          (found_busy n (a + 1) b (omega arith) (omega arith) (λ k from to. idle k (omega arith) to) busy))

      never_busy : (n a : ℕ) → ((k : ℕ) → a ≤ k → k < a + n → is_idle rule lat ops rows k ≡ true) → busy_from rule lat ops rows n a ≡ a + n
      never_busy zero a idle = omega arith
      never_busy (suc n) a idle = rw (idle a (omega arith) (omega arith))
          (never_busy n (a + 1) (λ k from to. idle k (omega arith) (omega arith)) ∙ omega arith)

      -- nothing comes
      pub no_next : list.coming.keys ≡ [] → (next_busy rule lat ops rows c ≡ length rows) × (next_ready rule lat ops rows prios c ≡ None)
      no_next empty = (at, rw at (ap (option_map (λ j. (length rows, j))) (first_none prios (ready_under rule lat ops rows (length rows)) (no_more (length rows) within))))
        where
          no_more : (b : ℕ) → c < b → (j : ℕ) → In (ready_under rule lat ops rows b) j → ⊥
          no_more b after j there =
              let found = comes b j after there in
              subst (λ (qs : List (ℕ × Place)). In qs (found.0.ready, place_at found.0 j)) empty found.3

          at : next_busy rule lat ops rows c ≡ length rows
          at = never_busy (length rows - (c + 1)) (c + 1) (λ k from to. idle_at k (no_more k (omega arith))) ∙ omega arith

      -- the first that comes is next
      pub is_next : (q : ℕ × Place) (rest : List (ℕ × Place)) → list.coming.keys ≡ q ∷ rest
          → (next_busy rule lat ops rows c ≡ q.0) × (next_ready rule lat ops rows prios c ≡ Some (q.0, number q.1))
      is_next q rest first =
          let coming : IsComing es q = is.kept.coming q (at_first q (inl refl)) in
          let later : c < q.0 = is.later q (at_first q (inl refl)) in
          let begins : q.0 ≡ coming.own.ready = ap (λ (r : ℕ × Place). r.0) coming.place in
          let in_time : coming.own.ready ≤ coming.own.cycle = coming.in_time in
          let own : IsExplained prios rule lat ops rows q.1.1 coming.own = are.each q.1.1 coming.own coming.there in
          let issued : coming.own.cycle ≡ issue_cycle rows q.1.1 = own.cycle in
          let last : issue_cycle rows q.1.1 < length rows = issued_within ops rows q.1.1 (known q.1.1 coming.own coming.there) table in
          let there : In (ready_under rule lat ops rows q.0) q.1.1 = ready_by q.0 q.1.1 coming.own coming.there (omega arith) (omega arith) in
          let at : next_busy rule lat ops rows c ≡ q.0 =
          found_busy (length rows - (c + 1)) (c + 1) q.0 (omega arith) (omega arith)
          (λ k from to. idle_at k (λ j inside.
          let found = comes k j (omega arith) inside in
          let begun : found.0.ready ≤ k = found.2 in
          let after : q.0 ≤ found.0.ready = (not_before (found.0.ready, place_at found.0 j) (from_first (found.0.ready, place_at found.0 j) found.3)).0 in
          absurd (omega arith)))
          (busy_at q.0 q.1.1 there) in
          let best : first_of_all prios (ready_under rule lat ops rows q.0) ≡ Some q.1.1 =
          first_is prios (ready_under rule lat ops rows q.0) q.1.1 (ready_rises_where (counts_by rule ops) lat ops rows q.0) there (λ j inside.
          let found = comes q.0 j later inside in
          let begun : found.0.ready ≤ q.0 = found.2 in
          let after = not_before (found.0.ready, place_at found.0 j) (from_first (found.0.ready, place_at found.0 j) found.3) in
          let not_earlier : q.0 ≤ found.0.ready = after.0 in
          after.1 (omega arith)) in
          (at, rw at (ap (option_map (λ j. (q.0, j))) best))
        where
          at_first : (r : ℕ × Place) → In (q ∷ rest) r → In list.coming.keys r
          at_first r there = subst (λ (qs : List (ℕ × Place)). In qs r) (sym first) there

          from_first : (r : ℕ × Place) → In list.coming.keys r → In (q ∷ rest) r
          from_first r there = subst (λ (qs : List (ℕ × Place)). In qs r) first there

          sorted : IsStrictlySortedBy coming_cmp (q ∷ rest)
          sorted = subst (IsStrictlySortedBy coming_cmp) first order.coming

          ranked : (r : ℕ × Place) → In (q ∷ rest) r → r.1.0.0 ≡ slice_index prios r.1.1
          ranked r there =
              let coming : IsComing es r = is.kept.coming r (at_first r there) in
              let own : IsExplained prios rule lat ops rows r.1.1 coming.own = are.each r.1.1 coming.own coming.there in
              ap (λ (s : ℕ × Place). s.1.0.0) coming.place ∙ own.priority

          goes : (r : ℕ × Place) → In (q ∷ rest) r → (r.1.0.0 < q.1.0.0) ⊎ ((q.1.0.0 ≡ r.1.0.0) × (q.1.1 < r.1.1)) → GoesBefore prios q.1.1 r.1.1
          goes r there (inl below) =
              let own : q.1.0.0 ≡ slice_index prios q.1.1 = ranked q (inl refl) in
              let other : r.1.0.0 ≡ slice_index prios r.1.1 = ranked r there in
              inl (omega arith)
          goes r there (inr (tie, before)) = inr (sym (ranked q (inl refl)) ∙ (tie ∙ ranked r there), omega arith)

          not_before : (r : ℕ × Place) → In (q ∷ rest) r → (q.0 ≤ r.0) × (q.0 ≡ r.0 → GoesBefore prios q.1.1 r.1.1)
          not_before r (inl here) = subst (λ (s : ℕ × Place). (q.0 ≤ s.0) × (q.0 ≡ s.0 → GoesBefore prios q.1.1 s.1.1)) here
              (omega arith, λ same. goes_before_self prios q.1.1)
          not_before r (inr there) =
              elim (coming_less q r (all_in (λ y. coming_cmp q y ≡ Less) rest r (sorted_head coming_cmp q rest sorted) there)) [
                | inl before ↦ (omega arith, λ same. absurd (omega arith))
                | inr (same, less) ↦ (omega arith, λ tie. goes r (inr there) (cmp_less q.1.0.0 r.1.0.0 q.1.1 r.1.1 less))
              ]
