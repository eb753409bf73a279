-- Members of lists, by recursion and by `Contains`, joined, mapped, filtered and searched; for the other proofs.
use Rattle.iloc_rules.proofs.Common.{◌≡◌, ℕ, zero, suc, ◌+◌, ◌<◌, ◌≤◌, Bool, true, false, ◌⊎◌, List, [], ◌∷◌, ◌++◌, map, length, get_or, slice_index_or, Contains, filter, sym, refl, ap, ◌∙◌, inl, inr, true≢false, arith, and_cases, or_cases, list_all, list_any, range_with_len, In}

pub contains_from : {X : Type 0} → (xs : List X) (x : X) → In xs x → Contains xs x
contains_from [] x there = absurd there
contains_from (y ∷ ys) x (inl here) = (0, omega arith, here)
contains_from (y ∷ ys) x (inr there) =
    let rest : Contains ys x = contains_from ys x there in
    (suc rest.0, let below : rest.0 < length ys = rest.1 in omega arith, rest.2)

at : {X : Type 0} → (xs : List X) (k : ℕ) (x : X) → k < length xs → slice_index_or xs k x ≡ x → In xs x
at [] k x below is = absurd (omega arith)
at (y ∷ ys) zero x below is = inl is
at (y ∷ ys) (suc k) x below is = inr (at ys k x (omega arith) is)

pub in_from : {X : Type 0} → (xs : List X) (x : X) → Contains xs x → In xs x
in_from xs x there = at xs there.0 x there.1 there.2

pub in_at : {X : Type 0} → (xs : List X) (k : ℕ) (d : X) → k < length xs → In xs (get_or xs k d)
in_at [] k d below = absurd (omega arith)
in_at (x ∷ xs) zero d below = inl refl
in_at (x ∷ xs) (suc k) d below = inr (in_at xs k d (omega arith))

pub in_left : {X : Type 0} → (xs ys : List X) (x : X) → In xs x → In (xs ++ ys) x
in_left [] ys x there = absurd there
in_left (y ∷ xs) ys x (inl here) = inl here
in_left (y ∷ xs) ys x (inr there) = inr (in_left xs ys x there)

pub in_right : {X : Type 0} → (xs ys : List X) (x : X) → In ys x → In (xs ++ ys) x
in_right [] ys x there = there
in_right (y ∷ xs) ys x there = inr (in_right xs ys x there)

pub from_append : {X : Type 0} → (xs ys : List X) (x : X) → In (xs ++ ys) x → In xs x ⊎ In ys x
from_append [] ys x there = inr there
from_append (y ∷ xs) ys x (inl here) = inl (inl here)
from_append (y ∷ xs) ys x (inr there) = elim (from_append xs ys x there) [ inl a ↦ inl (inr a) | inr b ↦ inr b ]

pub in_map : {X Y : Type 0} → (f : X → Y) (xs : List X) (x : X) → In xs x → In (map f xs) (f x)
in_map f [] x there = absurd there
in_map f (y ∷ xs) x (inl here) = inl (ap f here)
in_map f (y ∷ xs) x (inr there) = inr (in_map f xs x there)

pub from_map : {X Y : Type 0} → (f : X → Y) (xs : List X) (y : Y) → In (map f xs) y → (x : X) × In xs x × (f x ≡ y)
from_map f [] y there = absurd there
from_map f (x ∷ xs) y (inl here) = (x, inl refl, here)
from_map f (x ∷ xs) y (inr there) = grind (arith, from_map f xs y there)

pub in_filter : {X : Type 0} → (p : X → Bool) (xs : List X) (x : X) → In xs x → p x ≡ true → In (filter p xs) x
in_filter p [] x there passes = absurd there
in_filter p (y ∷ xs) x (inl here) passes = let same : p y ≡ true = ap p here ∙ passes in rw same (inl here)
in_filter p (y ∷ xs) x (inr there) passes = grind (arith, in_filter p xs x there passes)

pub from_filter : {X : Type 0} → (p : X → Bool) (xs : List X) (x : X) → In (filter p xs) x → In xs x × (p x ≡ true)
from_filter p [] x there = absurd there
from_filter p (y ∷ xs) x there = grind (arith, at, from_filter p xs x)

pub any_at : {X : Type 0} → (p : X → Bool) (xs : List X) (x : X) → In xs x → p x ≡ true → list_any p xs ≡ true
any_at p [] x there passes = absurd there
any_at p (y ∷ xs) x (inl here) passes = let same : p y ≡ true = ap p here ∙ passes in rw same refl
any_at p (y ∷ xs) x (inr there) passes = grind (arith, any_at p xs x there passes)

pub from_any : {X : Type 0} → (p : X → Bool) (xs : List X) → list_any p xs ≡ true → (x : X) × In xs x × (p x ≡ true)
from_any p [] passes = absurd (true≢false (sym passes))
from_any p (y ∷ xs) passes = grind (arith, or_cases, from_any p xs)

-- a test finds as much in one list as in another that has its members
pub any_same : {X : Type 0} → (p : X → Bool) (xs ys : List X) → ((x : X) → In xs x → In ys x)
    → ((x : X) → In ys x → In xs x) → list_any p xs ≡ list_any p ys
any_same p xs ys to from = grind (arith, any_at, from_any, true≢false)

pub all_from : {X : Type 0} → (p : X → Bool) (xs : List X) → ((x : X) → In xs x → p x ≡ true) → list_all p xs ≡ true
all_from p [] passes = refl
all_from p (y ∷ xs) passes = rw (passes y (inl refl)) (all_from p xs (λ x there. passes x (inr there)))

pub from_all : {X : Type 0} → (p : X → Bool) (xs : List X) (x : X) → list_all p xs ≡ true → In xs x → p x ≡ true
from_all p [] x passes there = absurd there
from_all p (y ∷ xs) x passes there = grind (arith, at, true≢false, from_all p xs x)

pub not_all : {X : Type 0} → (p : X → Bool) (xs : List X) → list_all p xs ≡ false → (x : X) × In xs x × (p x ≡ false)
not_all p [] fails = absurd (true≢false fails)
not_all p (x ∷ xs) fails = grind (arith, and_cases, not_all p xs)

pub empty_from : {X : Type 0} → (xs : List X) → ((x : X) → In xs x → ⊥) → xs ≡ []
empty_from [] none = refl
empty_from (x ∷ xs) none = absurd (none x (inl refl))

pub in_range_from : (a n k : ℕ) → a ≤ k → k < a + n → In (range_with_len a n) k
in_range_from a zero k above below = absurd (omega arith)
in_range_from a (suc n) k above below = grind (arith, in_range_from (a + 1) n k)

pub from_range : (a n k : ℕ) → In (range_with_len a n) k → (a ≤ k) × (k < a + n)
from_range a zero k there = absurd there
from_range a (suc n) k (inl here) = omega arith
from_range a (suc n) k (inr there) = grind (arith, from_range (a + 1) n k there)

-- functions that agree on all members
pub map_same : {X Y : Type 0} (f g : X → Y) (xs : List X) → ((x : X) → In xs x → f x ≡ g x) → map f xs ≡ map g xs
map_same f g [] same = refl
map_same f g (x ∷ xs) same = rw (same x (inl refl), map_same f g xs (λ y there. same y (inr there))) refl
