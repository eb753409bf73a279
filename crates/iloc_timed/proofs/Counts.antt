-- How many of a list pass a test, and whether one does.
use Rattle.std.proofs.Common.{◌≡◌, ◌≤◌, ℕ, suc, ◌+◌, ◌==◌, cond, Bool, true, false, List, [], ◌∷◌, count_by, arith, refl, sym, ap, ◌∙◌, inl, inr}
use Rattle.std.specs.Prelude.{Contains}
use Rattle.std.proofs.lemmas.Bool.{or_cases, or_parts, eqb-true}
use Rattle.std.specs.List.{list_any}
use Rattle.std.proofs.lemmas.List.Sums.{sum_by-cons}
use Rattle.iloc_meaning.proofs.Cases.{by_bool}

count_by-yes : {X : Type 0} (p : X → Bool) (x : X) (xs : List X) → p x ≡ true → count_by p (x ∷ xs) ≡ 1 + count_by p xs
count_by-yes p x xs passes = sum_by-cons (λ y. cond (p y) 1 0) x xs ∙ ap (λ b. cond b 1 0 + count_by p xs) passes

count_by-no : {X : Type 0} (p : X → Bool) (x : X) (xs : List X) → p x ≡ false → count_by p (x ∷ xs) ≡ 0 + count_by p xs
count_by-no p x xs fails = sum_by-cons (λ y. cond (p y) 1 0) x xs ∙ ap (λ b. cond b 1 0 + count_by p xs) fails

-- something passes where the count isn't 0
pub count_by_some : {X : Type 0} (p : X → Bool) (xs : List X) → list_any p xs ≡ true → 1 ≤ count_by p xs
count_by_some p [] any = absurd cc
count_by_some p (x ∷ xs) any = by_bool (p x)
    (λ passes. omega (arith, count_by-yes p x xs passes))
    (λ fails.
    let rest : list_any p xs ≡ true = rw fails at any in
    omega (arith, count_by-no p x xs fails, count_by_some p xs rest))

pub count_by_none : {X : Type 0} (p : X → Bool) (xs : List X) → list_any p xs ≡ false → count_by p xs ≡ 0
count_by_none p [] any = refl
count_by_none p (x ∷ xs) any =
    let parts : (p x ≡ false) × (list_any p xs ≡ false) = or_parts (p x) (list_any p xs) any in
    omega (arith, count_by-no p x xs parts.0, count_by_none p xs parts.1)

-- a number that equals one of a list is an element
pub any_contains : (xs : List ℕ) (i : ℕ) → list_any (λ j. i == j) xs ≡ true → Contains xs i
any_contains [] i any = absurd cc
any_contains (x ∷ xs) i any = elim (or_cases (i == x) (list_any (λ j. i == j) xs) any) [
  | inl here ↦ (0, omega arith, sym (eqb-true i x here))
  | inr later ↦ let rest : Contains xs i = any_contains xs i later in (suc rest.0, omega (arith, rest.1), rest.2)
]
