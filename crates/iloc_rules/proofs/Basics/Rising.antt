-- Lists of numbers that rise or fall, and a search down from n; for the choice, and for look-ups in a log.
use Rattle.iloc_rules.proofs.Common.{◌≡◌, ℕ, zero, suc, ◌+◌, ◌<◌, Bool, true, false, ◌⊎◌, List, [], ◌∷◌, Some, None, find, sym, refl, ap, ◌∙◌, subst, inl, inr, arith, cases_eq, range_with_len, In}
use Rattle.iloc_rules.proofs.Basics.Members.{from_range}
use Rattle.iloc_rules.proofs.Basics.Ordered.{Ordered}

abbrev pub Rises : List ℕ → Type 0
Rises = Ordered (λ x y. x < y)

abbrev pub Falls : List ℕ → Type 0
Falls = Ordered (λ x y. y < x)

pub rises_range : (a n : ℕ) → Rises (range_with_len a n)
rises_range a zero = tt
rises_range a (suc n) = grind (arith, from_range, rises_range (a + 1) n)

-- two lists that one asymmetric relation orders are one if they have the same members
same_ordered : (R : ℕ → ℕ → Type 0) → ((x y : ℕ) → R x y → R y x → ⊥) → (xs ys : List ℕ) → Ordered R xs → Ordered R ys
    → ((z : ℕ) → In xs z → In ys z) → ((z : ℕ) → In ys z → In xs z) → xs ≡ ys
same_ordered R apart [] [] f g to from = refl
same_ordered R apart [] (y ∷ ys) f g to from = absurd (from y (inl refl))
same_ordered R apart (x ∷ xs) [] f g to from = absurd (to x (inl refl))
same_ordered R apart (x ∷ xs) (y ∷ ys) f g to from =
    ap (λ z. z ∷ xs) heads ∙ ap (λ zs. y ∷ zs) (same_ordered R apart xs ys f.1 g.1 rest_to rest_from)
  where
    heads : x ≡ y
    heads = elim (to x (inl refl)) [
      | inl here ↦ sym here
      | inr there ↦ elim (from y (inl refl)) [
        | inl same ↦ same
        | inr other ↦ absurd (apart x y (f.0 y other) (g.0 x there))
      ]
    ]

    rest_to : (z : ℕ) → In xs z → In ys z
    rest_to z there = elim (to z (inr there)) [
      | inl here ↦
          let again : R x x = subst (R x) (sym here ∙ sym heads) (f.0 z there) in
          absurd (apart x x again again)
      | inr rest ↦ rest
    ]

    rest_from : (z : ℕ) → In ys z → In xs z
    rest_from z there = elim (from z (inr there)) [
      | inl here ↦
          let again : R y y = subst (R y) (sym here ∙ heads) (g.0 z there) in
          absurd (apart y y again again)
      | inr rest ↦ rest
    ]

pub rises_same : (xs ys : List ℕ) → Rises xs → Rises ys → ((z : ℕ) → In xs z → In ys z) → ((z : ℕ) → In ys z → In xs z)
    → xs ≡ ys
rises_same = same_ordered (λ x y. x < y) (λ x y (less : x < y) (more : y < x). omega arith)

pub falls_same : (xs ys : List ℕ) → Falls xs → Falls ys → ((z : ℕ) → In xs z → In ys z) → ((z : ℕ) → In ys z → In xs z)
    → xs ≡ ys
falls_same = same_ordered (λ x y. y < x) (λ x y (more : y < x) (less : x < y). omega arith)

-- the numbers below n, the greatest first
abbrev pub countdown : ℕ → List ℕ
countdown zero = []
countdown (suc n) = n ∷ countdown n

pub in_countdown : (n k : ℕ) → k < n → In (countdown n) k
in_countdown zero k below = absurd (omega arith)
in_countdown (suc n) k below = grind (arith, in_countdown n k)

pub from_countdown : (n k : ℕ) → In (countdown n) k → k < n
from_countdown zero k there = absurd there
from_countdown (suc n) k (inl here) = omega arith
from_countdown (suc n) k (inr there) = let below : k < n = from_countdown n k there in omega arith

pub falls_countdown : (n : ℕ) → Falls (countdown n)
falls_countdown zero = tt
falls_countdown (suc n) = ((λ y there. from_countdown n y there), falls_countdown n)

-- a search down from n that finds nothing, and one that finds m
pub record FindsNone (p : ℕ → Bool) (n : ℕ) : Type 0 where
  pub is : find p (countdown n) ≡ None
  pub fails : (k : ℕ) → k < n → p k ≡ false

pub record FindsLast (p : ℕ → Bool) (n m : ℕ) : Type 0 where
  pub is : find p (countdown n) ≡ Some m
  pub below : m < n
  pub passes : p m ≡ true
  pub fails : (k : ℕ) → m < k → k < n → p k ≡ false

pub finds : (p : ℕ → Bool) (n : ℕ) → FindsNone p n ⊎ ((m : ℕ) × FindsLast p n m)
finds p zero = inl (record { is = refl; fails = λ k below. absurd (omega arith) })
finds p (suc n) = grind (arith, cases_eq, finds p n)

pub falls_from : (R : ℕ → ℕ → Type 0) (xs : List ℕ) → Ordered R xs → ((x y : ℕ) → In xs x → In xs y → R x y → y < x)
    → Falls xs
falls_from R [] o below = tt
falls_from R (x ∷ xs) o below = grind (arith, falls_from R xs o.1 (λ z y front back. below z y (inr front) (inr back)))
