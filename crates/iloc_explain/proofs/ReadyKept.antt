-- What is kept of the ready list from cycle to cycle.
use Rattle.iloc_explain.proofs.Common.{◌≡◌, ℕ, ◌+◌, ◌<◌, ◌≤◌, Bool, true, false, ◌⊎◌, List, [], ◌∷◌, length, ◌==◌, slice_get, Some, None, Option, sym, refl, ap, ◌∙◌, subst, inl, inr, arith, eqb-false, eqb-true, same_Some, slice_get_within, is_at, IsStrictlySortedBy, is_eq, match_ordering, nat_cmp, by_bool, holds_one, holds_zero, holds, Row, In, IsComing, IsKept, IsReadyList, IsReadyPlace, IsRowAt, Place, coming_cmp, place_at, place_cmp, without, without_place, Explained}
use Rattle.std.specs.BTreeSet.{insert_key}
use Rattle.std.specs.Cmp.{nat_cmp_is}
use Rattle.std.specs.Set.{remove_key}
use Rattle.std.specs.declared.cmp.Ordering.{Ordering}
use Rattle.std.specs.declared.cmp.Ordering.TheVariants.{Equal, Greater, Less}
use Rattle.std.specs.declared.cmp.Reverse.{Reverse}
use Rattle.std.proofs.lemmas.Map.Keys.{sorted_head, sorted_tail}
use Rattle.std.proofs.lemmas.Map.Lookups.{CmpEqualImpliesEq, exact_pairs, exact_unsigned}
use Rattle.iloc_explain.specs.declared.ready_list.ReadyList.{ReadyList}
use Rattle.iloc_explain.proofs.ReadyOrder.{all_in}

-- ---- members of a set with a key more, or without one
reverse_exact : CmpEqualImpliesEq (λ (x y : Reverse ℕ). nat_cmp y.0 x.0)
reverse_exact x y is = let same : y.0 ≡ x.0 = exact_unsigned y.0 x.0 is in rw same refl

place_exact : CmpEqualImpliesEq place_cmp
place_exact = exact_pairs (λ (x y : Reverse ℕ). nat_cmp y.0 x.0) nat_cmp reverse_exact exact_unsigned

coming_exact : CmpEqualImpliesEq coming_cmp
coming_exact = exact_pairs nat_cmp place_cmp exact_unsigned place_exact

module _ {K : Type 0} (cmp : K → K → Ordering) (exact : CmpEqualImpliesEq cmp) where
  from_placed : (o : Ordering) (xs rest : List K) (x k y : K) → (In rest y → (k ≡ y) ⊎ In xs y)
      → In (match_ordering o (k ∷ x ∷ xs) (x ∷ xs) (x ∷ rest)) y → (k ≡ y) ⊎ In (x ∷ xs) y
  from_placed Less xs rest x k y later there = there
  from_placed Equal xs rest x k y later there = inr there
  from_placed Greater xs rest x k y later (inl here) = inr (inl here)
  from_placed Greater xs rest x k y later (inr there) = elim (later there) [ inl new ↦ inl new | inr old ↦ inr (inr old) ]

  from_insert : (xs : List K) (k y : K) → In (insert_key cmp xs k) y → (k ≡ y) ⊎ In xs y
  from_insert [] k y there = there
  from_insert (x ∷ xs) k y there = from_placed (cmp k x) xs (insert_key cmp xs k) x k y (from_insert xs k y) there

  in_same : (xs : List K) (x k y : K) → cmp k x ≡ Equal → (k ≡ y) ⊎ In (x ∷ xs) y → In (x ∷ xs) y
  in_same xs x k y is (inl new) = inl (sym (exact k x is) ∙ new)
  in_same xs x k y is (inr old) = old

  in_later : (xs rest : List K) (x k y : K) → ((k ≡ y) ⊎ In xs y → In rest y) → (k ≡ y) ⊎ In (x ∷ xs) y → In (x ∷ rest) y
  in_later xs rest x k y more (inl new) = inr (more (inl new))
  in_later xs rest x k y more (inr (inl here)) = inl here
  in_later xs rest x k y more (inr (inr old)) = inr (more (inr old))

  in_placed : (o : Ordering) (xs rest : List K) (x k y : K) → cmp k x ≡ o → ((k ≡ y) ⊎ In xs y → In rest y) → (k ≡ y) ⊎ In (x ∷ xs) y
      → In (match_ordering o (k ∷ x ∷ xs) (x ∷ xs) (x ∷ rest)) y
  in_placed Less xs rest x k y is more there = there
  in_placed Equal xs rest x k y is more there = in_same xs x k y is there
  in_placed Greater xs rest x k y is more there = in_later xs rest x k y more there

  in_insert : (xs : List K) (k y : K) → (k ≡ y) ⊎ In xs y → In (insert_key cmp xs k) y
  in_insert [] k y there = there
  in_insert (x ∷ xs) k y there = in_placed (cmp k x) xs (insert_key cmp xs k) x k y refl (in_insert xs k y) there

  in_either : (xs rest : List K) (x y : K) → (In rest y → In xs y) → In (x ∷ rest) y → In (x ∷ xs) y
  in_either xs rest x y more (inl here) = inl here
  in_either xs rest x y more (inr later) = inr (more later)

  from_removed : (test : K → Bool) (xs : List K) (y : K) → In (remove_key test xs) y → In xs y
  from_removed test [] y there = there
  from_removed test (x ∷ xs) y there = by_bool (test x)
      (λ t. inr (rw t at there))
      (λ f. in_either xs (remove_key test xs) x y (from_removed test xs y) (rw f at there))

  in_removed : (test : K → Bool) (xs : List K) (y : K) → test y ≡ false → In xs y → In (remove_key test xs) y
  in_removed test [] y fails there = there
  in_removed test (x ∷ xs) y fails (inl here) =
      let out : test x ≡ false = ap test here ∙ fails in rw out (inl here)
  in_removed test (x ∷ xs) y fails (inr later) = by_bool (test x)
      (λ t. rw t later)
      (λ f. rw f (inr (in_removed test xs y fails later)))

  equal_from : (o : Ordering) → is_eq o ≡ true → o ≡ Equal
  equal_from Equal is = refl
  equal_from Less is = absurd cc
  equal_from Greater is = absurd cc

  not_first : (same : (x : K) → cmp x x ≡ Equal) (rest : List K) (x k : K) → is_eq (cmp k x) ≡ false → (In rest k → ⊥)
      → In (x ∷ rest) k → ⊥
  not_first same rest x k f more (inl here) =
      let equal : cmp k x ≡ Equal = subst (λ y. cmp k y ≡ Equal) (sym here) (same k) in
      let t : is_eq (cmp k x) ≡ true = rw equal refl in
      absurd cc
  not_first same rest x k f more (inr later) = more later

  -- of keys in order one is equal to k at most
  self_equal : (same : (x : K) → cmp x x ≡ Equal) (xs : List K) (k : K) → IsStrictlySortedBy cmp xs
      → In (remove_key (is_at (cmp k)) xs) k → ⊥
  self_equal same [] k order there = there
  self_equal same (x ∷ xs) k order there = by_bool (is_eq (cmp k x))
      (λ t.
      let one : k ≡ x = exact k x (equal_from (cmp k x) t) in
      let later : In xs k = rw t at there in
      let less : cmp x k ≡ Less = all_in (λ y. cmp x y ≡ Less) xs k (sorted_head cmp x xs order) later in
      let equal : cmp x k ≡ Equal = subst (λ y. cmp x y ≡ Equal) (sym one) (same x) in
      absurd cc)
      (λ f. not_first same (remove_key (is_at (cmp k)) xs) x k f (self_equal same xs k (sorted_tail cmp x xs order)) (rw f at there))

place_same : (p : Place) → place_cmp p p ≡ Equal
place_same p = rw (← nat_cmp_is p.0.0 p.0.0 Equal refl, ← nat_cmp_is p.1 p.1 Equal refl) refl

held_where : (row : Row) (i : ℕ) → holds row i ≡ true → (row.zero ≡ Some i) ⊎ (row.one ≡ Some i)
held_where row i held = by_slots row.zero row.one held
  where
    by_slots : (zero one : Option ℕ) → holds (record { zero = zero; one = one }) i ≡ true → (zero ≡ Some i) ⊎ (one ≡ Some i)
    by_slots None None held = absurd cc
    by_slots (Some a) None held = by_bool (i == a) (λ t. inl (ap Some (sym (eqb-true i a t)))) (λ f. absurd (let none = rw f at held in cc))
    by_slots None (Some b) held = by_bool (i == b) (λ t. inr (ap Some (sym (eqb-true i b t)))) (λ f. absurd (let none = rw f at held in cc))
    by_slots (Some a) (Some b) held = by_bool (i == b) (λ t. inr (ap Some (sym (eqb-true i b t))))
        (λ f. by_bool (i == a) (λ t. inl (ap Some (sym (eqb-true i a t)))) (λ g. absurd (let none = rw (f, g) at held in cc)))

-- ---- before the first cycle
-- these are the places of the first n operations, each after the cycle at which it becomes ready
pub record HasComing (es : List Explained) (n : ℕ) (places : List (ℕ × Place)) : Type 0 where
  pub only : (q : ℕ × Place) → In places q → IsComing es q
  pub all : (j : ℕ) (own : Explained) → j < n → slice_get es j ≡ Some own → own.ready ≤ own.cycle
      → In places (own.ready, place_at own j)

pub one_coming : (es : List Explained) (n : ℕ) (own : Explained) (places : List (ℕ × Place)) → slice_get es n ≡ Some own
    → own.ready ≤ own.cycle → HasComing es n places
    → HasComing es (n + 1) (insert_key coming_cmp places (own.ready, place_at own n))
one_coming es n own places there in_time has = record {
  only = λ q inside. elim (from_insert coming_cmp coming_exact places (own.ready, place_at own n) q inside) [
    | inl new ↦ subst (IsComing es) new record { own = own; there = there; place = refl; in_time = in_time }
    | inr old ↦ has.only q old
  ];
  all = λ j other before is early. in_insert coming_cmp coming_exact places (own.ready, place_at own n) (other.ready, place_at other j)
      (by_bool (j == n)
      (λ t.
      let at : j ≡ n = eqb-true j n t in
      let same : own ≡ other = same_Some own other (sym there ∙ (ap (slice_get es) (sym at) ∙ is)) in
      inl (rw (same, at) refl))
      (λ f.
      let apart : j ≡ n → ⊥ = eqb-false j n f in
      inr (has.all j other (omega arith) is early)));
}

pub late_coming : (es : List Explained) (n : ℕ) (own : Explained) (places : List (ℕ × Place)) → slice_get es n ≡ Some own
    → (own.ready ≤ own.cycle → ⊥) → HasComing es n places → HasComing es (n + 1) places
late_coming es n own places there late has = record {
  only = has.only;
  all = λ j other before is early. by_bool (j == n)
      (λ t.
      let at : j ≡ n = eqb-true j n t in
      let same : other ≡ own = same_Some other own (sym is ∙ (ap (slice_get es) at ∙ there)) in
      absurd (late (subst (λ (o : Explained). o.ready ≤ o.cycle) same early)))
      (λ f.
      let apart : j ≡ n → ⊥ = eqb-false j n f in
      has.all j other (omega arith) is early);
}

pub kept_first : (es : List Explained) (list : ReadyList) → list.ready.keys ≡ [] → HasComing es (length es) list.coming.keys
    → IsKept es 0 list
kept_first es list none has = record {
  ready = λ p there. absurd (subst (λ (places : List Place). In places p) none there);
  coming = has.only;
  ahead = λ q there. omega arith;
  all = λ j own is early begun. inr (has.all j own ((slice_get_within es j own is)) is early);
}

-- ---- what becomes ready
pub kept_released : (es : List Explained) (c r : ℕ) (p : Place) (old popped new : ReadyList) → IsKept es c old → r ≤ c
    → old.coming.keys ≡ (r, p) ∷ popped.coming.keys → popped.ready.keys ≡ old.ready.keys
    → new.ready.keys ≡ insert_key place_cmp popped.ready.keys p → new.coming.keys ≡ popped.coming.keys → IsKept es c new
kept_released es c r p old popped new kept by first same added rest = record {
  ready = λ q there.
      elim (from_insert place_cmp place_exact old.ready.keys p q
      (subst (λ (places : List Place). In places q) (added ∙ ap (λ (places : List Place). insert_key place_cmp places p) same) there)) [
        | inl new ↦ subst (IsReadyPlace es c) new is_ready
        | inr before ↦ kept.ready q before
      ];
  coming = λ q there. kept.coming q (subst (λ (qs : List (ℕ × Place)). In qs q) (sym first) (inr (subst (λ (qs : List (ℕ × Place)). In qs q) rest there)));
  ahead = λ q there. kept.ahead q (subst (λ (qs : List (ℕ × Place)). In qs q) (sym first) (inr (subst (λ (qs : List (ℕ × Place)). In qs q) rest there)));
  all = λ j own is early waits. elim (kept.all j own is early waits) [
    | inl before ↦ inl (to_ready (place_at own j) (inr before))
    | inr came ↦ among j own (subst (λ (qs : List (ℕ × Place)). In qs (own.ready, place_at own j)) first came)
  ];
}
  where
    to_ready : (q : Place) → (p ≡ q) ⊎ In old.ready.keys q → In new.ready.keys q
    to_ready q there = subst (λ (places : List Place). In places q) (sym (added ∙ ap (λ (places : List Place). insert_key place_cmp places p) same))
        (in_insert place_cmp place_exact old.ready.keys p q there)

    among : (j : ℕ) (own : Explained) → In ((r, p) ∷ popped.coming.keys) (own.ready, place_at own j)
        → In new.ready.keys (place_at own j) ⊎ In new.coming.keys (own.ready, place_at own j)
    among j own (inl here) = inl (to_ready (place_at own j) (inl (ap (λ (q : ℕ × Place). q.1) here)))
    among j own (inr later) = inr (subst (λ (qs : List (ℕ × Place)). In qs (own.ready, place_at own j)) (sym rest) later)

    is_ready : IsReadyPlace es c p
    is_ready =
        let is : IsComing es (r, p) = kept.coming (r, p) (subst (λ (qs : List (ℕ × Place)). In qs (r, p)) (sym first) (inl refl)) in
        let at : r ≡ is.own.ready = ap (λ (q : ℕ × Place). q.0) is.place in
        let ahead : c ≤ r = kept.ahead (r, p) (subst (λ (qs : List (ℕ × Place)). In qs (r, p)) (sym first) (inl refl)) in
        let in_time : is.own.ready ≤ is.own.cycle = is.in_time in
        record { own = is.own; there = is.there; place = ap (λ (q : ℕ × Place). q.1) is.place; ready = omega arith; waits = omega arith }

-- ---- what a row issues
-- a place that differs from that of what is in the slot stays
stays_in : (es : List Explained) (slot : Option ℕ) (places : List Place) (p : Place) → ((i : ℕ) → slot ≡ Some i → p.1 ≡ i → ⊥)
    → In places p → In (without es slot places) p
stays_in es None places p apart there = there
stays_in es (Some i) places p apart there = by_own (slice_get es i)
  where
    by_own : (own : Option Explained) → In (without_place own i places) p
    by_own None = there
    by_own (Some own) = in_removed place_cmp place_exact (is_at (place_cmp (place_at own i))) places p
        (differs (place_cmp (place_at own i) p) refl) there
      where
        differs : (o : Ordering) → place_cmp (place_at own i) p ≡ o → is_eq o ≡ false
        differs Less is = refl
        differs Greater is = refl
        differs Equal is = absurd (apart i refl (sym (ap (λ (q : Place). q.1) (place_exact (place_at own i) p is))))

from_without : (es : List Explained) (slot : Option ℕ) (places : List Place) (p : Place) → In (without es slot places) p → In places p
from_without es None places p there = there
from_without es (Some i) places p there = by_own (slice_get es i) there
  where
    by_own : (own : Option Explained) → In (without_place own i places) p → In places p
    by_own None there = there
    by_own (Some own) there = from_removed place_cmp place_exact (is_at (place_cmp (place_at own i))) places p there

-- that of what is in the slot doesn't
gone : (es : List Explained) (slot : Option ℕ) (places : List Place) (own : Explained) (i : ℕ) → IsStrictlySortedBy place_cmp places
    → slice_get es i ≡ Some own → slot ≡ Some i → In (without es slot places) (place_at own i) → ⊥
gone es slot places own i order there is inside =
    self_equal place_cmp place_exact place_same places (place_at own i) order
    (subst (λ (o : Option Explained). In (without_place o i places) (place_at own i)) there
    (subst (λ (o : Option ℕ). In (without es o places) (place_at own i)) is inside))

pub kept_issued : (es : List Explained) (c : ℕ) (row : Row) (old new : ReadyList) (between : List Place) → IsReadyList es c old
    → IsRowAt es row c → IsStrictlySortedBy place_cmp old.ready.keys → IsStrictlySortedBy place_cmp between
    → between ≡ without es row.zero old.ready.keys → new.ready.keys ≡ without es row.one between
    → new.coming.keys ≡ old.coming.keys → IsKept es (c + 1) new
kept_issued es c row old new between is issued order order_between by_zero by_one same = record {
  ready = λ p there. still p there (is.kept.ready p (before p there));
  coming = λ q there. is.kept.coming q (subst (λ (qs : List (ℕ × Place)). In qs q) same there);
  ahead = λ q there. let later : c < q.0 = is.later q (subst (λ (qs : List (ℕ × Place)). In qs q) same there) in omega arith;
  all = λ j own at early waits. elim (is.kept.all j own at early (omega arith)) [
    | inl ready ↦ inl (subst (λ (places : List Place). In places (place_at own j)) (sym by_one)
        (stays_in es row.one between (place_at own j)
        (λ i slot here. apart j own at waits (holds_one row j (slot ∙ ap Some (sym here))))
        (subst (λ (places : List Place). In places (place_at own j)) (sym by_zero)
        (stays_in es row.zero old.ready.keys (place_at own j)
        (λ i slot here. apart j own at waits (holds_zero row j (slot ∙ ap Some (sym here)))) ready))))
    | inr coming ↦ inr (subst (λ (qs : List (ℕ × Place)). In qs (own.ready, place_at own j)) (sym same) coming)
  ];
}
  where
    apart : (j : ℕ) (own : Explained) → slice_get es j ≡ Some own → c + 1 ≤ own.cycle → holds row j ≡ true → ⊥
    apart j own at waits held = let here : own.cycle ≡ c = issued.only j own at held in absurd (omega arith)

    after_zero : (p : Place) → In new.ready.keys p → In between p
    after_zero p there = from_without es row.one between p (subst (λ (places : List Place). In places p) by_one there)

    before : (p : Place) → In new.ready.keys p → In old.ready.keys p
    before p there = from_without es row.zero old.ready.keys p (subst (λ (places : List Place). In places p) by_zero (after_zero p there))

    still : (p : Place) → In new.ready.keys p → IsReadyPlace es c p → IsReadyPlace es (c + 1) p
    still p there at =
        let ready : at.own.ready ≤ c = at.ready in
        let waits : c ≤ at.own.cycle = at.waits in
        by_bool (at.own.cycle == c)
        (λ t. absurd (out (held_where row p.1 (issued.all p.1 at.own at.there (eqb-true at.own.cycle c t)))))
        (λ f.
        let apart : at.own.cycle ≡ c → ⊥ = eqb-false at.own.cycle c f in
        record { own = at.own; there = at.there; place = at.place; ready = omega arith; waits = omega arith })
      where
        out : (row.zero ≡ Some p.1) ⊎ (row.one ≡ Some p.1) → ⊥
        out (inl zero) = gone es row.zero old.ready.keys at.own p.1 order at.there zero
            (subst (λ (q : Place). In (without es row.zero old.ready.keys) q) at.place
            (subst (λ (places : List Place). In places p) by_zero (after_zero p there)))
        out (inr one) = gone es row.one between at.own p.1 order_between at.there one
            (subst (λ (q : Place). In (without es row.one between) q) at.place
            (subst (λ (places : List Place). In places p) by_one there))
