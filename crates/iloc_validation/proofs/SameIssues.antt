-- Rows that issue the same as others, with other numbers, are by the book where those are;
-- `laws::own_rows_are_by_the_book`.
use Rattle.iloc_validation.proofs.Common.{◌≡◌, ℕ, zero, suc, ◌+◌, ◌<◌, ◌≤◌, Bool, true, false, ◌⊎◌, List, [], ◌∷◌, ◌++◌, map, length, if◌then◌else◌, IsTrue, nat_lt, nat_le, Some, None, fold, filter, Option, option_map, option_to_list, unwrap_or, sym, refl, ap, ◌∙◌, subst, ap₂, inl, inr, arith, ext_get_or, eq-eqb, ne_eqb, length-map, map-append, defined, used, Op, Reg, by_bool, is_register, op_at, kind, latency, AreNumbered, IsTable, empty_row, issue_cycle, keeps_units, row_at, slots, times_issued, Latencies, Row, contains_from, from_filter, in_left, in_right, map_same, count_in, count_in_twice, count_in_within, is_issued, issued_there, stands_there, without_nops, In, numbers_from_issued, label, defining, due, issued_before, last_of, read, IsScheduleUnder, IssueTheSame, issued_in, renumber, in_slot, is_in, number_in}
use Rattle.iloc_rules.proofs.Basics.Slots.{issued_early}
use Rattle.iloc_facts.specs.Readings.{arrived}
use Rattle.iloc_validation.specs.Laws.{OwnRowsAreByTheBook}
use Rattle.iloc_validation.proofs.Lawful.{lawful_by_the_book}
use Rattle.iloc_validation.proofs.Renumbered.{slots_of, mapped_twice, length-renumber, row_at-map, cycle_same, units_same}

-- Two tables that issue the same

rows_same : (ops ops' : List Op) (rows rows' : List Row) → IssueTheSame ops rows ops' rows' → (c : ℕ)
    → issued_in ops (row_at rows c) ≡ issued_in ops' (row_at rows' c)
rows_same ops ops' [] [] same c = refl
rows_same ops ops' (row ∷ rows) (row' ∷ rows') same zero = cc
rows_same ops ops' (row ∷ rows) (row' ∷ rows') same (suc c) =
    let rest : map (issued_in ops) rows ≡ map (issued_in ops') rows' = cc in
    rows_same ops ops' rows rows' rest c
rows_same ops ops' rows rows' same c = absurd cc

pub slot_cases : (a b : Option ℕ) (k : ℕ) → In (option_to_list a ++ option_to_list b) k → (a ≡ Some k) ⊎ (b ≡ Some k)
slot_cases a b k there = grind arith

pub in_first : (a b : Option ℕ) (k : ℕ) → a ≡ Some k → In (option_to_list a ++ option_to_list b) k
in_first a b k is = in_left (option_to_list a) (option_to_list b) k (rw is (inl refl))

pub in_second : (a b : Option ℕ) (k : ℕ) → b ≡ Some k → In (option_to_list a ++ option_to_list b) k
in_second a b k is = in_right (option_to_list a) (option_to_list b) k (rw is (inl refl))

module _ (ops ops' : List Op) (rows rows' : List Row) (numbered : AreNumbered ops' rows')
    (same : IssueTheSame ops rows ops' rows') where
  pub in_zero : (c k : ℕ) → (row_at rows' c).zero ≡ Some k → In (slots (row_at rows' c)) k
  in_zero c k is = in_second (row_at rows' c).one (row_at rows' c).zero k is

  pub in_one : (c k : ℕ) → (row_at rows' c).one ≡ Some k → In (slots (row_at rows' c)) k
  in_one c k is = in_first (row_at rows' c).one (row_at rows' c).zero k is

  inside : (c k : ℕ) → In (slots (row_at rows' c)) k → k < length ops'
  inside c k there = numbered.in_range c k (contains_from (slots (row_at rows' c)) k there)

  pub cycle_there : (c k : ℕ) → In (slots (row_at rows' c)) k → issue_cycle rows' k ≡ c
  cycle_there c k there = issued_there rows' c k (numbered.once k (inside c k there)) there

  pub not_in_zero : (c k : ℕ) (z : Option ℕ) → (row_at rows' c).zero ≡ z → (row_at rows' c).one ≡ Some k → is_in z k ≡ false
  not_in_zero c k None at one = refl
  not_in_zero c k (Some j) at one = ne_eqb j k (λ level.
      let twice : 2 ≤ count_in (row_at rows' c) k = count_in_twice (row_at rows' c) k one (at ∙ ap Some level) in
      let once : times_issued rows' k ≡ 1 = numbered.once k (inside c k (in_one c k one)) in
      let most : count_in (row_at rows' c) k ≤ times_issued rows' k = count_in_within rows' c k in
      omega arith)

  slot_moved : (z other : Option ℕ) → option_map (op_at ops) other ≡ option_map (op_at ops') z → (f : ℕ → ℕ)
      → ((k : ℕ) → z ≡ Some k → f k ≡ unwrap_or other 0) → other ≡ option_map f z
  slot_moved z other level f h2 = grind arith

  pub zero_moved : (c k : ℕ) → (row_at rows' c).zero ≡ Some k → number_in rows rows' k ≡ unwrap_or (row_at rows c).zero 0
  zero_moved c k is =
      let at = cycle_there c k (in_zero c k is) in
      let here : is_in (row_at rows' c).zero k ≡ true = rw is (eq-eqb k k refl) in
      ap (λ n. in_slot (row_at rows n) (row_at rows' n) k) at
      ∙ ap (λ b. if b then unwrap_or (row_at rows c).zero 0 else unwrap_or (row_at rows c).one 0) here

  pub one_moved : (c k : ℕ) → (row_at rows' c).one ≡ Some k → number_in rows rows' k ≡ unwrap_or (row_at rows c).one 0
  one_moved c k is =
      let at = cycle_there c k (in_one c k is) in
      let here : is_in (row_at rows' c).zero k ≡ false = not_in_zero c k (row_at rows' c).zero refl is in
      ap (λ n. in_slot (row_at rows n) (row_at rows' n) k) at
      ∙ ap (λ b. if b then unwrap_or (row_at rows c).zero 0 else unwrap_or (row_at rows c).one 0) here

  -- each row is the other one with other numbers
  pub row_moved : (c : ℕ) → row_at rows c ≡ renumber (number_in rows rows') (row_at rows' c)
  row_moved c =
      let level = rows_same ops ops' rows rows' same c in
      let zero : (row_at rows c).zero ≡ option_map (number_in rows rows') (row_at rows' c).zero =
      slot_moved (row_at rows' c).zero (row_at rows c).zero (ap (λ p. p.0) level) (number_in rows rows') (zero_moved c) in
      let one : (row_at rows c).one ≡ option_map (number_in rows rows') (row_at rows' c).one =
      slot_moved (row_at rows' c).one (row_at rows c).one (ap (λ p. p.1) level) (number_in rows rows') (one_moved c) in
      λ i. record { zero = zero i; one = one i }

  pub rows_moved : rows ≡ map (renumber (number_in rows rows')) rows'
  rows_moved =
      let long : length rows ≡ length rows' =
      sym (length-map rows (issued_in ops)) ∙ ap length same ∙ length-map rows' (issued_in ops') in
      ext_get_or empty_row rows (map (renumber (number_in rows rows')) rows')
      (long ∙ sym (length-renumber (number_in rows rows') rows'))
      (λ c within. row_moved c ∙ sym (row_at-map (number_in rows rows') rows' c))

  -- where each number stands
  pub stands : (k : ℕ) → k < length ops' → In (slots (row_at rows' (issue_cycle rows' k))) k
  stands k here = grind (arith, is_issued, stands_there)

  slot_op : (z other : Option ℕ) (f : ℕ → ℕ) (k : ℕ) → option_map (op_at ops) other ≡ option_map (op_at ops') z
      → other ≡ option_map f z → z ≡ Some k → op_at ops (f k) ≡ op_at ops' k
  slot_op z other f k level moved is = grind (arith, option_map)

  pub op_moved : (k : ℕ) → k < length ops' → op_at ops (number_in rows rows' k) ≡ op_at ops' k
  op_moved k here =
      let c = issue_cycle rows' k in
      let level = rows_same ops ops' rows rows' same c in
      let row = row_moved c in
      elim (slot_cases (row_at rows' c).one (row_at rows' c).zero k (stands k here)) [
        | inl one ↦ slot_op (row_at rows' c).one (row_at rows c).one (number_in rows rows') k (ap (λ p. p.1) level)
            (ap (λ (r : Row). r.one) row) one
        | inr second_slot ↦ slot_op (row_at rows' c).zero (row_at rows c).zero (number_in rows rows') k (ap (λ p. p.0) level)
            (ap (λ (r : Row). r.zero) row) second_slot
      ]

-- There and back

module _ (ops ops' : List Op) (rows rows' : List Row) (first : AreNumbered ops rows) (second : AreNumbered ops' rows')
    (same : IssueTheSame ops rows ops' rows') where
  abbrev to : ℕ → ℕ
  to = number_in rows rows'

  abbrev from : ℕ → ℕ
  from = number_in rows' rows

  twice : (c : ℕ) → row_at rows' c ≡ renumber from (renumber to (row_at rows' c))
  twice c =
      row_moved ops' ops rows' rows first (sym same) c ∙ ap (renumber from) (row_moved ops ops' rows rows' second same c)

  back_in : (o : Option ℕ) (k : ℕ) → o ≡ option_map from (option_map to o) → o ≡ Some k → from (to k) ≡ k
  back_in o k level is = grind (arith, option_map)

  pub there_and_back : (k : ℕ) → k < length ops' → from (to k) ≡ k
  there_and_back k here =
      let c = issue_cycle rows' k in
      let row = twice c in
      elim (slot_cases (row_at rows' c).one (row_at rows' c).zero k (stands ops ops' rows rows' second same k here)) [
        | inl one ↦ back_in (row_at rows' c).one k (ap (λ (r : Row). r.one) row) one
        | inr second_slot ↦ back_in (row_at rows' c).zero k (ap (λ (r : Row). r.zero) row) second_slot
      ]

  -- a number's place in the other rows
  pub cycle_moved : (k : ℕ) → k < length ops' → issue_cycle rows (to k) ≡ issue_cycle rows' k
  cycle_moved k here =
      ap (λ rs. issue_cycle rs (to k)) (rows_moved ops ops' rows rows' second same)
      ∙ cycle_same (length ops') to
      (λ i j inside within level. sym (there_and_back i inside) ∙ ap from level ∙ there_and_back j within) k here rows'
      (λ c j there. second.in_range c j (contains_from (slots (row_at rows' c)) j there))

  pub to_below : (k : ℕ) → k < length ops' → to k < length ops
  to_below k here =
      let c = issue_cycle rows' k in
      let row = row_moved ops ops' rows rows' second same c in
      first.in_range c (to k) (contains_from (slots (row_at rows c)) (to k)
      (elim (slot_cases (row_at rows' c).one (row_at rows' c).zero k (stands ops ops' rows rows' second same k here)) [
        | inl one ↦ in_first (row_at rows c).one (row_at rows c).zero (to k)
            (ap (λ (r : Row). r.one) row ∙ ap (option_map to) one)
        | inr second_slot ↦ in_second (row_at rows c).one (row_at rows c).zero (to k)
            (ap (λ (r : Row). r.zero) row ∙ ap (option_map to) second_slot)
      ]))

-- What is read

issued_moved : (f : ℕ → ℕ) (rows rows' : List Row) → ((c : ℕ) → row_at rows c ≡ renumber f (row_at rows' c)) → (c : ℕ)
    → issued_before rows c ≡ map f (issued_before rows' c)
issued_moved f rows rows' row zero = refl
issued_moved f rows rows' row (suc c) = grind (arith, map-append, slots_of, issued_moved f rows rows' row c)

filter_moved : (f : ℕ → ℕ) (p p' : ℕ → Bool) (ks : List ℕ) → ((k : ℕ) → In ks k → p (f k) ≡ p' k)
    → filter p (map f ks) ≡ map f (filter p' ks)
filter_moved f p p' [] level = refl
filter_moved f p p' (k ∷ ks) level = grind (arith, filter_moved f p p' ks (λ j there. level j (inr there)))

last_moved : (f : ℕ → ℕ) (due due' : ℕ → ℕ) (o : Option ℕ) (k : ℕ) → ((j : ℕ) → o ≡ Some j → due (f j) ≡ due' j)
    → due (f k) ≡ due' k → last_of due (option_map f o) (f k) ≡ option_map f (last_of due' o k)
last_moved f due due' None k before here = refl
last_moved f due due' (Some j) k before here =
    let first : nat_lt (due (f k)) (due (f j)) ≡ nat_lt (due' k) (due' j) = ap₂ nat_lt here (before j refl) in
    by_bool (nat_lt (due' k) (due' j))
    (λ t. let yes : nat_lt (due (f k)) (due (f j)) ≡ true = first ∙ t in rw (t, yes) refl)
    (λ t. let no : nat_lt (due (f k)) (due (f j)) ≡ false = first ∙ t in rw (t, no) refl)

last_is : (due : ℕ → ℕ) (o : Option ℕ) (k j : ℕ) → last_of due o k ≡ Some j → (o ≡ Some j) ⊎ (k ≡ j)
last_is due o k j is = grind arith

fold_moved : (f : ℕ → ℕ) (due due' : ℕ → ℕ) (o : Option ℕ) (ks : List ℕ) → ((j : ℕ) → o ≡ Some j → due (f j) ≡ due' j)
    → ((k : ℕ) → In ks k → due (f k) ≡ due' k)
    → fold (last_of due) (option_map f o) (map f ks) ≡ option_map f (fold (last_of due') o ks)
fold_moved f due due' o [] before each = refl
fold_moved f due due' o (k ∷ ks) before each =
    grind (
      arith,
      last_is,
      last_moved,
      fold_moved f due due' (last_of due' o k) ks (λ j is. elim (last_is due' o k j is) [ inl old ↦ before j old | inr new ↦ subst (λ n. due (f n) ≡ due' n) new (each k (inl refl)) ]) (λ j there. each j (inr there)),
    )

module _ (lat : Latencies) (f : ℕ → ℕ) (ops ops' : List Op) (rows rows' : List Row) (c : ℕ) (r : Reg)
    (row : (n : ℕ) → row_at rows n ≡ renumber f (row_at rows' n))
    (op : (k : ℕ) → In (issued_before rows' c) k → op_at ops (f k) ≡ op_at ops' k)
    (cycle : (k : ℕ) → In (issued_before rows' c) k → issue_cycle rows (f k) ≡ issue_cycle rows' k) where
  due_moved : (k : ℕ) → In (issued_before rows' c) k → due lat ops rows (f k) ≡ due lat ops' rows' k
  due_moved k there = ap₂ (λ x y. x + y) (cycle k there) (ap (latency lat) (op k there))

  abbrev defining' : List ℕ
  defining' = defining ops' r (issued_before rows' c)

  defining_moved : defining ops r (issued_before rows c) ≡ map f defining'
  defining_moved =
      ap (defining ops r) (issued_moved f rows rows' row c)
      ∙ filter_moved f (λ k. is_register r (defined (op_at ops k))) (λ k. is_register r (defined (op_at ops' k)))
      (issued_before rows' c) (λ k there. ap (λ o. is_register r (defined o)) (op k there))

  in_issued : (k : ℕ) → In defining' k → In (issued_before rows' c) k
  in_issued k there = (from_filter (λ j. is_register r (defined (op_at ops' j))) (issued_before rows' c) k there).0

  arrived_moved : arrived (due lat ops rows) c (map f defining') ≡ map f (arrived (due lat ops' rows') c defining')
  arrived_moved = filter_moved f (λ k. nat_le (due lat ops rows k) c) (λ k. nat_le (due lat ops' rows' k) c) defining'
      (λ k there. ap (λ n. nat_le n c) (due_moved k (in_issued k there)))

  pub read_moved : read lat ops rows c r ≡ option_map f (read lat ops' rows' c r)
  read_moved =
      ap (λ ks. fold (last_of (due lat ops rows)) None (arrived (due lat ops rows) c ks)) defining_moved
      ∙ ap (fold (last_of (due lat ops rows)) None) arrived_moved
      ∙ fold_moved f (due lat ops rows) (due lat ops' rows') None (arrived (due lat ops' rows') c defining')
      (λ j is. absurd (let no : None ≡ Some j = is in cc))
      (λ k there. due_moved k (in_issued k
      (from_filter (λ j. nat_le (due lat ops' rows' j) c) defining' k there).0))

-- By the book

module _ (lat : Latencies) (block ops ops' : List Op) (rows rows' : List Row) (origin partner : ℕ → ℕ)
    (by : IsScheduleUnder lat block ops rows origin partner) (second : AreNumbered ops' rows')
    (same : IssueTheSame ops rows ops' rows') where
  first : AreNumbered ops rows
  first = record { in_range = by.table.in_range; once = by.table.once }

  abbrev to' : ℕ → ℕ
  to' = number_in rows rows'

  abbrev from' : ℕ → ℕ
  from' = number_in rows' rows

  op_is : (k : ℕ) → k < length ops' → op_at ops (to' k) ≡ op_at ops' k
  op_is = op_moved ops ops' rows rows' second same

  table' : IsTable ops' rows'
  table' = record {
    in_range = second.in_range;
    once = second.once;
    units = λ c. subst IsTrue (
        ap (keeps_units ops) (row_moved ops ops' rows rows' second same c)
        ∙ units_same ops' ops to' (row_at rows' c) (λ k there.
        ap kind (op_is k (second.in_range c k (contains_from (slots (row_at rows' c)) k there))))) (by.table.units c);
  }

  issued_inside : (c k : ℕ) → In (issued_before rows' c) k → k < length ops'
  issued_inside c k there = (issued_early ops' rows' table' c k (numbers_from_issued rows' c k there)).0

  same_read : (k : ℕ) (r : Reg) → k < length ops'
      → read lat ops rows (issue_cycle rows (to' k)) r ≡ option_map to' (read lat ops' rows' (issue_cycle rows' k) r)
  same_read k r here =
      ap (λ c. read lat ops rows c r) (cycle_moved ops ops' rows rows' first second same k here)
      ∙ read_moved lat to' ops ops' rows rows' (issue_cycle rows' k) r (row_moved ops ops' rows rows' second same)
      (λ j there. op_is j (issued_inside (issue_cycle rows' k) j there))
      (λ j there. cycle_moved ops ops' rows rows' first second same j
      (issued_inside (issue_cycle rows' k) j there))

  pub under_others : IsScheduleUnder lat block ops' rows' (λ k. origin (to' k)) (λ i. from' (partner i))
  under_others = record {
    table = table';
    paired = record {
      there = λ k here. by.paired.there (to' k) (to_below ops ops' rows rows' first second same k here);
      back = λ k here.
          ap from' (by.paired.back (to' k) (to_below ops ops' rows rows' first second same k here))
          ∙ there_and_back ops ops' rows rows' first second same k here;
      there_too = λ i here. to_below ops' ops rows' rows second first (sym same) (partner i) (by.paired.there_too i here);
      back_too = λ i here.
          ap origin (there_and_back ops' ops rows' rows second first (sym same) (partner i) (by.paired.there_too i here))
          ∙ by.paired.back_too i here;
      labels = λ k here.
          ap label (sym (op_is k here)) ∙ by.paired.labels (to' k) (to_below ops ops' rows rows' first second same k here);
    };
    reads = λ k here.
        map_same (λ r. option_map (λ j. origin (to' j)) (read lat ops' rows' (issue_cycle rows' k) r))
        (λ r. option_map origin (read lat ops rows (issue_cycle rows (to' k)) r)) (used (op_at ops' k))
        (λ r there.
        sym (mapped_twice origin to' (read lat ops' rows' (issue_cycle rows' k) r))
        ∙ ap (option_map origin) (sym (same_read k r here)))
        ∙ ap (λ o. map (λ r. option_map origin (read lat ops rows (issue_cycle rows (to' k)) r)) (used o))
        (sym (op_is k here))
        ∙ by.reads (to' k) (to_below ops ops' rows rows' first second same k here);
    waits = λ i j d order here delay.
        let before : i < length block = omega arith in
        let one : issue_cycle rows (partner i) ≡ issue_cycle rows' (from' (partner i)) =
        sym (cycle_moved ops' ops rows' rows second first (sym same) (partner i) (by.paired.there_too i before)) in
        let other : issue_cycle rows (partner j) ≡ issue_cycle rows' (from' (partner j)) =
        sym (cycle_moved ops' ops rows' rows second first (sym same) (partner j) (by.paired.there_too j here)) in
        rw (← one, ← other) (by.waits i j d order here delay);
  }

pub own_by_the_book : OwnRowsAreByTheBook
own_by_the_book lat block ops ops' rows rows' lawful second same =
    let by = lawful_by_the_book lat block ops rows lawful in (
      λ k. by.0 (number_in rows rows' k),
      λ i. number_in rows' rows (by.1 i),
      under_others lat (without_nops block) ops ops' rows rows' by.0 by.1 by.2 second same,
    )
