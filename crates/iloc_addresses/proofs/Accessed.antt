-- The operations that wait for a store, and those that are found for one; for `Accesses`.
use Rattle.std.proofs.lemmas.List.Sorted.{Contains-permutation, IsPermutation-sym, sum_by-IsPermutation}
use Rattle.std.proofs.Common.{IsPermutation}
use Rattle.iloc_addresses.proofs.Common.{◌≡◌, ℕ, ◌+◌, ◌<◌, Bool, true, false, cond, List, [], ◌∷◌, ◌++◌, length, get_or, ℤ, if◌then◌else◌, ◌==◌, Some, count_by, Option, int_eq, sym, refl, ap, ◌∙◌, subst, inl, inr, append_assoc, arith, eqb-true, cases_lt, Decides-int_eq, sum_by-append, sum_by-cons, sum_by_push, by_bool, contains_from, in_from, from_append, apart_if_both, are_apart, In, Word, Moves, count_in, ops_at, AreFar, ArePlaced, Finds, IsShort, at_constant, constant_of, have_one_base, waiting_by, Accesses}
use Rattle.iloc_addresses.specs.declared.dependences.accesses.Access.{Access}
use Rattle.iloc_addresses.proofs.ByConstants.{at_some}
use Rattle.iloc_addresses.proofs.Bases.{at_own, at_same, apart_one_base, apart_two_constants, near_other_base, near_itself, far_at}

same_constant : (c d : ℤ) → int_eq c d ≡ true → c ≡ d
same_constant c d t = (Decides-int_eq c d).0 t

-- an operation that is counted is one of the accesses
some_access : (xs : List Access) (i : ℕ) → 0 < count_by (λ access. access.op == i) xs → (a : Access) × In xs a × (a.op ≡ i)
some_access [] i some = absurd (omega arith)
some_access (x ∷ xs) i some = by_bool (x.op == i) (λ t. (x, inl refl, eqb-true x.op i t))
    (λ f.
    let both : count_by (λ access. access.op == i) (x ∷ xs) ≡ 0 + count_by (λ access. access.op == i) xs =
    sum_by-cons (λ access. cond (access.op == i) 1 0) x xs
    ∙ ap (λ b. cond b 1 0 + count_by (λ (access : Access). access.op == i) xs) f in
    let rest = some_access xs i (omega arith) in
    (rest.0, inr rest.1, rest.2))

pub placed_more : (of : ℕ → Option Word) (old new : Accesses) (a : Access) → new.base ≡ old.base → new.kept ≡ old.kept
    → new.recent.items ≡ old.recent.items ++ a ∷ [] → of a.op ≡ Some a.address → IsShort (constant_of a.address)
    → ArePlaced of old → ArePlaced of new
placed_more of old new a base kept more is short placed = record {
  recent = λ b there.
      let either = from_append old.recent.items (a ∷ []) b (subst (λ xs. In xs b) more there) in
      elim either [
        | inl before ↦ placed.recent b before
        | inr last ↦ elim last [
          | inl here ↦ subst (λ x. (of x.op ≡ Some x.address) × IsShort (constant_of x.address)) here (is, short)
          | inr none ↦ absurd none
        ]
      ];
  kept = λ c i there.
      let before = placed.kept c i (subst (λ k. In (ops_at k c) i) kept there) in
      (before.0 ∙ ap (λ b. Some (at_constant b c)) (sym base), before.1);
}

-- one of the recent ones is taken
module _ (first old new : Accesses) (a : Access) (list list' list″ : List ℕ)
    (finds : Finds first.base first old list list') (base : old.base ≡ first.base) (same : new.base ≡ old.base)
    (taken : IsPermutation old.recent.items (a ∷ new.recent.items)) where
  was_recent : (b : Access) → In (a ∷ new.recent.items) b → In old.recent.items b
  was_recent b there = in_from old.recent.items b
      (Contains-permutation (a ∷ new.recent.items) old.recent.items b
      (IsPermutation-sym old.recent.items (a ∷ new.recent.items) taken) (contains_from (a ∷ new.recent.items) b there))

  count_left : (test : ℕ → Bool) → count_by (λ access. test access.op) old.recent.items
      ≡ cond (test a.op) 1 0 + count_by (λ access. test access.op) new.recent.items
  count_left test = sym (sum_by-IsPermutation (λ access. cond (test access.op) 1 0) old.recent.items (a ∷ new.recent.items) taken)
      ∙ sum_by-cons (λ access. cond (test access.op) 1 0) a new.recent.items

  its_place : (of : ℕ → Option Word) → ArePlaced of first → (of a.op ≡ Some a.address) × IsShort (constant_of a.address)
  its_place of placed = (finds.placed of placed).recent a (was_recent a (inl refl))

  rest_placed : (of : ℕ → Option Word) → ArePlaced of old → (b : Access) → In new.recent.items b
      → (of b.op ≡ Some b.address) × IsShort (constant_of b.address)
  rest_placed of placed b there = placed.recent b (was_recent b (inr there))

  -- and is found
  pub finds_more : are_apart a.address old.base ≡ false → new.kept ≡ old.kept → list″ ≡ list' ++ a.op ∷ []
      → Finds first.base first new list list″
  finds_more near kept more = record {
    moved = finds.moved ++ a.op ∷ [];
    behind = more ∙ ap (λ xs. xs ++ a.op ∷ []) finds.behind ∙ append_assoc list finds.moved (a.op ∷ []);
    count = λ test.
        let all : count_by test (finds.moved ++ a.op ∷ []) ≡ count_by test finds.moved + cond (test a.op) 1 0 =
        sum_by_push (λ k. cond (test k) 1 0) finds.moved a.op in
        let last : count_by (λ access. test access.op) old.recent.items
        ≡ cond (test a.op) 1 0 + count_by (λ access. test access.op) new.recent.items = count_left test in
        let rest : count_in test new.kept ≡ count_in test old.kept = ap (count_in test) kept in
        let before : count_by test finds.moved + waiting_by test old ≡ waiting_by test first = finds.count test in
        omega arith;
    near = λ of placed i there. elim (from_append finds.moved (a.op ∷ []) i there) [
      | inl before ↦ finds.near of placed i before
      | inr last ↦ elim last [
        | inl here ↦
            let it : of i ≡ Some a.address = ap of (sym here) ∙ (its_place of placed).0 in
            ap (λ o. apart_if_both o (Some first.base)) it ∙ ap (are_apart a.address) (sym base) ∙ near
        | inr none ↦ absurd none
      ]
    ];
    placed = λ of placed. record {
      recent = rest_placed of (finds.placed of placed);
      kept = λ c i there.
          let before = (finds.placed of placed).kept c i (subst (λ k. In (ops_at k c) i) kept there) in
          (before.0 ∙ ap (λ b. Some (at_constant b c)) (sym same), before.1);
    };
  }

  -- or is kept
  module _ (apart : are_apart a.address old.base ≡ true)
      (put : (c : ℤ) → ops_at new.kept c
      ≡ (if int_eq (constant_of a.address) c then ops_at old.kept c ++ a.op ∷ [] else ops_at old.kept c)) where
    kept_place : (of : ℕ → Option Word) → ArePlaced of first → (c : ℤ) (i : ℕ) → In (ops_at new.kept c) i
        → (of i ≡ Some (at_constant new.base c)) × IsShort c
    kept_place of placed c i there = by_bool (int_eq (constant_of a.address) c)
        (λ t.
        let all : ops_at new.kept c ≡ ops_at old.kept c ++ a.op ∷ [] = put c ∙ rw t refl in
        elim (from_append (ops_at old.kept c) (a.op ∷ []) i (subst (λ xs. In xs i) all there)) [
          | inl before ↦ still before
          | inr last ↦ elim last [
            | inl here ↦
                let its = its_place of placed in
                let constant : constant_of a.address ≡ c = same_constant (constant_of a.address) c t in
                let at : a.address ≡ at_constant new.base c =
                sym (at_own a.address a.address (one_base a.address)) ∙ at_same a.address old.base (constant_of a.address)
                (apart_one_base a.address old.base apart) ∙ ap (at_constant old.base) constant
                ∙ ap (λ b. at_constant b c) (sym same) in
                (ap of (sym here) ∙ its.0 ∙ ap Some at, subst IsShort constant its.1)
            | inr none ↦ absurd none
          ]
        ])
        (λ f. let all : ops_at new.kept c ≡ ops_at old.kept c = put c ∙ rw f refl in
        still (subst (λ xs. In xs i) all there))
      where
        one_base : (w : Word) → have_one_base w w ≡ true
        one_base w = grind arith

        still : In (ops_at old.kept c) i → (of i ≡ Some (at_constant new.base c)) × IsShort c
        still before =
            let it = (finds.placed of placed).kept c i before in
            (it.0 ∙ ap (λ b. Some (at_constant b c)) (sym same), it.1)

    pub keeps_more : ((test : ℕ → Bool) → count_in test new.kept ≡ count_in test old.kept + (if test a.op then 1 else 0))
        → Finds first.base first new list list'
    keeps_more more = record {
      moved = finds.moved;
      behind = finds.behind;
      count = λ test.
          let last : count_by (λ access. test access.op) old.recent.items
          ≡ cond (test a.op) 1 0 + count_by (λ access. test access.op) new.recent.items = count_left test in
          let one : count_in test new.kept ≡ count_in test old.kept + cond (test a.op) 1 0 = more test in
          let before : count_by test finds.moved + waiting_by test old ≡ waiting_by test first = finds.count test in
          omega arith;
      near = finds.near;
      placed = λ of placed. record {
        recent = rest_placed of (finds.placed of placed);
        kept = kept_place of placed;
      };
    }

    pub keeps_apart : ops_at old.kept (constant_of first.base) ≡ [] → ops_at new.kept (constant_of first.base) ≡ []
    keeps_apart none =
        let differ : int_eq (constant_of a.address) (constant_of first.base) ≡ false =
        ap (λ b. int_eq (constant_of a.address) (constant_of b)) (sym base)
        ∙ apart_two_constants a.address old.base apart in
        put (constant_of first.base) ∙ rw differ none

-- none is left at the constant whose operations were taken
pub own_taken : (c : ℤ) (xs ys : List ℕ) → xs ≡ (if int_eq c c then [] else ys) → xs ≡ []
own_taken c xs ys left = let own : int_eq c c ≡ true = (Decides-int_eq c c).1 refl in left ∙ rw own refl

-- those that wait once all recent ones are gone through, and none is kept at the constant of its address
pub are_far : (accesses : Accesses)
    → ((k : ℕ) (d : Access) → k < length accesses.recent.items
    → are_apart (get_or accesses.recent.items k d).address accesses.base ≡ true)
    → ops_at accesses.kept (constant_of accesses.base) ≡ [] → AreFar accesses.base accesses
are_far accesses far none of placed short i some =
    elim (cases_lt 0 (count_by (λ access. access.op == i) accesses.recent.items)) [
      | inl recent ↦
          let found = some_access accesses.recent.items i recent in
          let place = contains_from accesses.recent.items found.0 found.1 in
          let apart : are_apart (found.0).address accesses.base ≡ true =
          ap (λ (a : Access). are_apart a.address accesses.base) (sym place.2) ∙ far place.0 found.0 place.1 in
          let its : of i ≡ Some (found.0).address = ap of (sym found.2) ∙ (placed.recent found.0 found.1).0 in
          ap (λ o. apart_if_both o (Some accesses.base)) its ∙ apart
      | inr no_recent ↦
          let kept : 0 < count_in (λ k. k == i) accesses.kept = omega arith in
          let found = at_some accesses.kept i kept in
          let it = placed.kept found.0 i found.1 in
          let differ : found.0 ≡ constant_of accesses.base → ⊥ =
          λ same. subst (λ xs. In xs i) (ap (ops_at accesses.kept) same ∙ none) found.1 in
          ap (λ o. apart_if_both o (Some accesses.base)) it.0 ∙ far_at accesses.base found.0 it.1 short differ
    ]

-- first those that are kept are found, with the base of the last store, and then those since then
module _ (old mid new : Accesses) (address : Word) (list list' list″ : List ℕ) (base : mid.base ≡ address)
    (recent : mid.recent ≡ old.recent) (finds : Finds mid.base mid new list' list″) where
  both_found : (moved : List ℕ) → list' ≡ list ++ moved
      → ((test : ℕ → Bool) → count_by test moved + count_in test mid.kept ≡ count_in test old.kept)
      → ((of : ℕ → Option Word) → ArePlaced of old → (i : ℕ) → In moved i → apart_if_both (of i) (Some address) ≡ false)
      → ((of : ℕ → Option Word) → ArePlaced of old → ArePlaced of mid) → Finds address old new list list″
  both_found moved behind count near placed = record {
    moved = moved ++ finds.moved;
    behind = finds.behind ∙ ap (λ xs. xs ++ finds.moved) behind ∙ append_assoc list moved finds.moved;
    count = λ test.
        let all : count_by test (moved ++ finds.moved) ≡ count_by test moved + count_by test finds.moved =
        sum_by-append (λ k. cond (test k) 1 0) moved finds.moved in
        let same : count_by (λ access. test access.op) mid.recent.items ≡ count_by (λ access. test access.op) old.recent.items =
        ap (λ v. count_by (λ access. test access.op) v.items) recent in
        let first : count_by test moved + count_in test mid.kept ≡ count_in test old.kept = count test in
        let after : count_by test finds.moved + waiting_by test new ≡ waiting_by test mid = finds.count test in
        omega arith;
    near = λ of here i there. elim (from_append moved finds.moved i there) [
      | inl before ↦ near of here i before
      | inr after ↦ ap (λ w. apart_if_both (of i) (Some w)) (sym base) ∙ finds.near of (placed of here) i after
    ];
    placed = λ of here. finds.placed of (placed of here);
  }

  mid_placed : ((c : ℤ) (i : ℕ) → In (ops_at mid.kept c) i → (of : ℕ → Option Word) → ArePlaced of old
      → (of i ≡ Some (at_constant mid.base c)) × IsShort c) → (of : ℕ → Option Word) → ArePlaced of old → ArePlaced of mid
  mid_placed kept of placed = record {
    recent = λ a there. placed.recent a (subst (λ v. In v.items a) recent there);
    kept = λ c i there. kept c i there of placed;
  }

  -- where the address has that base
  pub finds_own : have_one_base old.base address ≡ true → list' ≡ list ++ ops_at old.kept (constant_of address)
      → ((c : ℤ) → ops_at mid.kept c ≡ (if int_eq (constant_of address) c then [] else ops_at old.kept c))
      → ((test : ℕ → Bool) → count_by test (ops_at old.kept (constant_of address)) + count_in test mid.kept ≡ count_in test old.kept)
      → Finds address old new list list″
  finds_own one behind left count = both_found (ops_at old.kept (constant_of address)) behind count
      (λ of placed i there.
      ap (λ o. apart_if_both o (Some address)) ((placed.kept (constant_of address) i there).0
      ∙ ap Some (at_own old.base address one))
      ∙ near_itself address)
      (mid_placed (λ c i there of placed.
      let it = placed.kept c i (before c i there) in
      (it.0 ∙ ap Some (at_same old.base address c one) ∙ ap (λ b. Some (at_constant b c)) (sym base), it.1)))
    where
      before : (c : ℤ) (i : ℕ) → In (ops_at mid.kept c) i → In (ops_at old.kept c) i
      before c i there = by_bool (int_eq (constant_of address) c)
          (λ t. let none : ops_at mid.kept c ≡ [] = left c ∙ rw t refl in absurd (subst (λ xs. In xs i) none there))
          (λ f. let same : ops_at mid.kept c ≡ ops_at old.kept c = left c ∙ rw f refl in subst (λ xs. In xs i) same there)

  -- and where it has another
  pub finds_others : have_one_base old.base address ≡ false → Moves old.kept mid.kept list list'
      → ((c : ℤ) → ops_at mid.kept c ≡ []) → Finds address old new list list″
  finds_others two moves none = both_found moves.moved moves.behind moves.count
      (λ of placed i there.
      let was = moves.were i there in
      ap (λ o. apart_if_both o (Some address)) ((placed.kept was.0 i was.1).0) ∙ near_other_base old.base address was.0 two)
      (mid_placed (λ c i there of placed. absurd (subst (λ xs. In xs i) (none c) there)))
