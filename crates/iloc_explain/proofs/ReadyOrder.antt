-- What is chosen from candidates, by a list of their places that is in the order of choice.
use Rattle.iloc_explain.proofs.Common.{◌≡◌, ℕ, zero, suc, ◌<◌, Bool, true, false, not, ◌⊎◌, List, [], ◌∷◌, map, length, take, ◌==◌, slice_get, slice_index, Some, filter, find, sym, refl, ap, ◌∙◌, subst, inl, inr, arith, eq-eqb, eqb-true, same_Some, AllByRecursion, IsStrictlySortedBy, MatchOrdering, nat_cmp, ordering_then, by_bool, empty_from, from_filter, in_filter, ordered_filter, first_of_all, GoesBefore, In, AreLater, Place, coming_cmp, number, place_cmp}
use Rattle.std.specs.declared.cmp.Ordering.{Ordering}
use Rattle.std.specs.declared.cmp.Ordering.TheVariants.{Equal, Greater, Less}
use Rattle.std.proofs.lemmas.Cmp.{ranked}
use Rattle.std.proofs.lemmas.Map.Keys.{sorted_head, sorted_tail}
use Rattle.iloc_rules.proofs.Basics.Rising.{Rises}
use Rattle.iloc_rules.proofs.Choice.FirstOfAll.{first_is, goes_before_self}
use Rattle.iloc_explain.specs.ReadyList.{first_ranked}

less_from : (i j : ℕ) → nat_cmp i j ≡ Less → i < j
less_from i j is = subst (λ o. MatchOrdering o (i < j) (i ≡ j) (j < i)) is (ranked i j (nat_cmp i j) refl)

-- what is less by two numbers is so by the first, or by what follows
cmp_cases : (a b : ℕ) (rest : Ordering) → ordering_then (nat_cmp a b) rest ≡ Less → (a < b) ⊎ ((a ≡ b) × (rest ≡ Less))
cmp_cases a b rest is = by_order (nat_cmp a b) (ranked a b (nat_cmp a b) refl) is
  where
    by_order : (o : Ordering) → MatchOrdering o (a < b) (a ≡ b) (b < a) → ordering_then o rest ≡ Less → (a < b) ⊎ ((a ≡ b) × (rest ≡ Less))
    by_order Less less is = inl less
    by_order Equal same is = inr (same, is)
    by_order Greater more is = absurd cc

-- of two places the one with the higher priority, or of equal ones the lower number, is the less
pub cmp_less : (a b i j : ℕ) → ordering_then (nat_cmp b a) (nat_cmp i j) ≡ Less → (b < a) ⊎ ((a ≡ b) × (i < j))
cmp_less a b i j is = elim (cmp_cases b a (nat_cmp i j) is) [
  | inl below ↦ inl below
  | inr (tie, less) ↦ inr (sym tie, less_from i j less)
]

-- what comes first in the order becomes ready first, and of what becomes ready then it is the first choice
pub coming_less : (p q : ℕ × Place) → coming_cmp p q ≡ Less → (p.0 < q.0) ⊎ ((p.0 ≡ q.0) × (place_cmp p.1 q.1 ≡ Less))
coming_less p q is = cmp_cases p.0 q.0 (place_cmp p.1 q.1) is

pub all_in : {X : Type 0} → (P : X → Type 0) (xs : List X) (x : X) → AllByRecursion P xs → In xs x → P x
all_in P [] x all there = absurd there
all_in P (y ∷ ys) x all (inl here) = subst P here all.0
all_in P (y ∷ ys) x all (inr there) = all_in P ys x all.1 there

-- all that comes is later than a cycle if the first is
pub all_later : (c : ℕ) (keys : List (ℕ × Place)) (first : ℕ × Place) → IsStrictlySortedBy coming_cmp keys → slice_get keys 0 ≡ Some first
    → c < first.0 → AreLater c keys
all_later c [] first order is after q there = absurd there
all_later c (k ∷ keys) first order is after q (inl here) =
    let same : k ≡ first = same_Some k first is in
    subst (λ (r : ℕ × Place). c < r.0) (sym same ∙ here) after
all_later c (k ∷ keys) first order is after q (inr there) =
    let same : k ≡ first = same_Some k first is in
    let begins : c < k.0 = subst (λ (r : ℕ × Place). c < r.0) (sym same) after in
    elim (coming_less k q (all_in (λ y. coming_cmp k y ≡ Less) keys q (sorted_head coming_cmp k keys order) there)) [
      | inl more ↦ omega arith
      | inr (tie, less) ↦ omega arith
    ]

-- the places, in the order of choice, are those of the candidates
pub record ArePlaces (prios : List ℕ) (places : List Place) (candidates : List ℕ) : Type 0 where
  pub rises : Rises candidates
  pub order : IsStrictlySortedBy place_cmp places
  pub ranked : (p : Place) → In places p → p.0.0 ≡ slice_index prios p.1
  pub only : (p : Place) → In places p → In candidates p.1
  pub all : (j : ℕ) → In candidates j → (p : Place) × In places p × (p.1 ≡ j)

module _ (prios : List ℕ) where
  -- what follows in the order has another number
  later_differs : (p : Place) (places : List Place) (candidates : List ℕ) → ArePlaces prios (p ∷ places) candidates
      → (q : Place) → In places q → GoesBefore prios p.1 q.1 × (p.1 ≡ q.1 → ⊥)
  later_differs p places candidates are q there =
      let own : p.0.0 ≡ slice_index prios p.1 = are.ranked p (inl refl) in
      let other : q.0.0 ≡ slice_index prios q.1 = are.ranked q (inr there) in
      elim (cmp_less p.0.0 q.0.0 p.1 q.1
      (all_in (λ y. place_cmp p y ≡ Less) places q (sorted_head place_cmp p places are.order) there)) [
        | inl below ↦
            let less : slice_index prios q.1 < slice_index prios p.1 = omega arith in
            (inl less, λ same. let alike : slice_index prios q.1 ≡ slice_index prios p.1 = ap (slice_index prios) (sym same) in absurd (omega arith))
        | inr (tie, before) ↦ (inr (sym own ∙ (tie ∙ other), omega arith), λ same. absurd (omega arith))
      ]

  -- the first of the order goes before each candidate
  first_before : (p : Place) (places : List Place) (candidates : List ℕ) → ArePlaces prios (p ∷ places) candidates
      → (j : ℕ) → In candidates j → GoesBefore prios p.1 j
  first_before p places candidates are j there =
      let found = are.all j there in
      subst (GoesBefore prios p.1) found.2 (among found.0 found.1)
    where
      among : (q : Place) → In (p ∷ places) q → GoesBefore prios p.1 q.1
      among q (inl here) = subst (λ r. GoesBefore prios p.1 r.1) here (goes_before_self prios p.1)
      among q (inr later) = (later_differs p places candidates are q later).0

  pub first_place : (p : Place) (places : List Place) (candidates : List ℕ) → ArePlaces prios (p ∷ places) candidates
      → first_of_all prios candidates ≡ Some p.1
  first_place p places candidates are =
      first_is prios candidates p.1 are.rises (are.only p (inl refl)) (first_before p places candidates are)

  pub no_place : (candidates : List ℕ) → ArePlaces prios [] candidates → candidates ≡ []
  no_place candidates are = empty_from candidates (λ j there. (are.all j there).1)

  pub other_places : (p : Place) (places : List Place) (candidates : List ℕ) → ArePlaces prios (p ∷ places) candidates
      → ArePlaces prios places (filter (λ j. not (p.1 == j)) candidates)
  other_places p places candidates are = record {
    rises = ordered_filter (λ x y. x < y) (λ j. not (p.1 == j)) candidates are.rises;
    order = sorted_tail place_cmp p places are.order;
    ranked = λ q there. are.ranked q (inr there);
    only = λ q there. in_filter (λ j. not (p.1 == j)) candidates q.1 (are.only q (inr there))
        (differs p.1 q.1 (later_differs p places candidates are q there).1);
    all = λ j there.
        let both = from_filter (λ i. not (p.1 == i)) candidates j there in
        let found = are.all j both.0 in
        among j both.1 found.0 found.2 found.1;
  }
    where
      differs : (i j : ℕ) → (i ≡ j → ⊥) → not (i == j) ≡ true
      differs i j apart = by_bool (i == j) (λ t. absurd (apart (eqb-true i j t))) (λ f. rw f refl)

      among : (j : ℕ) → not (p.1 == j) ≡ true → (q : Place) → q.1 ≡ j → In (p ∷ places) q → (r : Place) × In places r × (r.1 ≡ j)
      among j other q is (inl here) =
          let same : p.1 ≡ j = ap number here ∙ is in
          absurd (let none = rw (eq-eqb p.1 j same) at other in cc)
      among j other q is (inr later) = (q, later, is)

  -- the first by rank are the first of the order
  pub ranked_is : (n : ℕ) (places : List Place) (candidates : List ℕ) → ArePlaces prios places candidates
      → first_ranked n prios candidates ≡ take n (map number places)
  ranked_is zero places candidates are = refl
  ranked_is (suc n) [] candidates are = rw (no_place candidates are) refl
  ranked_is (suc n) (p ∷ places) candidates are = rw (first_place p places candidates are)
      (ap (λ rest. p.1 ∷ rest) (ranked_is n places (filter (λ j. not (p.1 == j)) candidates) (other_places p places candidates are)))

  -- candidates that rise have a number once
  keeps_all : (i : ℕ) (xs : List ℕ) → ((y : ℕ) → In xs y → i < y) → filter (λ j. not (i == j)) xs ≡ xs
  keeps_all i [] above = refl
  keeps_all i (x ∷ xs) above =
      let more : i < x = above x (inl refl) in
      by_bool (i == x)
      (λ t. let same : i ≡ x = eqb-true i x t in absurd (omega arith))
      (λ f. rw f (ap (λ rest. x ∷ rest) (keeps_all i xs (λ y there. above y (inr there)))))

  one_less : (i : ℕ) (xs : List ℕ) → Rises xs → In xs i → length xs ≡ suc (length (filter (λ j. not (i == j)) xs))
  one_less i [] rises there = absurd there
  one_less i (x ∷ xs) rises (inl here) =
      rw (eq-eqb i x (sym here)) (ap suc (ap length (sym (keeps_all i xs (λ y there. subst (λ z. z < y) here (rises.0 y there))))))
  one_less i (x ∷ xs) rises (inr there) =
      let more : x < i = rises.0 i there in
      by_bool (i == x)
      (λ t. let same : i ≡ x = eqb-true i x t in absurd (omega arith))
      (λ f. rw f (ap suc (one_less i xs rises.1 there)))

  pub count_is : (places : List Place) (candidates : List ℕ) → ArePlaces prios places candidates → length candidates ≡ length places
  count_is [] candidates are = ap length (no_place candidates are)
  count_is (p ∷ places) candidates are =
      one_less p.1 candidates are.rises (are.only p (inl refl))
      ∙ ap suc (count_is places (filter (λ j. not (p.1 == j)) candidates) (other_places p places candidates are))

  -- the first that passes a test is the first place that does
  same_without : (test : ℕ → Bool) (i : ℕ) (xs : List ℕ) → test i ≡ false
      → filter test (filter (λ j. not (i == j)) xs) ≡ filter test xs
  same_without test i [] fails = refl
  same_without test i (x ∷ xs) fails = by_bool (i == x)
      (λ t. let out : test x ≡ false = subst (λ j. test j ≡ false) (eqb-true i x t) fails in
      rw (t, out) (same_without test i xs fails))
      (λ f. rw f (by_bool (test x)
      (λ passes. rw passes (ap (λ rest. x ∷ rest) (same_without test i xs fails)))
      (λ out. rw out (same_without test i xs fails))))

  pub found_is : (test : ℕ → Bool) (places : List Place) (candidates : List ℕ) → ArePlaces prios places candidates
      → find test (map number places) ≡ first_of_all prios (filter test candidates)
  found_is test [] candidates are = rw (no_place candidates are) refl
  found_is test (p ∷ places) candidates are = by_bool (test p.1)
      (λ passes. rw passes (sym (first_is prios (filter test candidates) p.1
      (ordered_filter (λ x y. x < y) test candidates are.rises)
      (in_filter test candidates p.1 (are.only p (inl refl)) passes)
      (λ j there. first_before p places candidates are j (from_filter test candidates j there).0))))
      (λ fails. rw fails (found_is test places (filter (λ j. not (p.1 == j)) candidates) (other_places p places candidates are)
      ∙ ap (first_of_all prios) (same_without test p.1 candidates fails)))
