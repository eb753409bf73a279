-- Members of joined lists, and rising lists; for the other proofs.
use Rattle.iloc_graph.proofs.Common.{◌≡◌, ℕ, suc, ◌<◌, Bool, false, List, [], ◌∷◌, length, get_or, Contains, sym, refl, subst, inl, inr, arith, AllPairs, flat_map, list_any, contains_from}
use Rattle.iloc_graph.proofs.Common.{from_append, in_left, in_right, Rises, In}

pub in_flat_map : {X Y : Type 0} (f : X → List Y) (xs : List X) (x : X) (y : Y) → In xs x → In (f x) y
    → In (flat_map f xs) y
in_flat_map f [] x y there at = absurd there
in_flat_map f (z ∷ zs) x y (inl here) at = in_left (f z) (flat_map f zs) y (subst (λ w. In (f w) y) (sym here) at)
in_flat_map f (z ∷ zs) x y (inr there) at = in_right (f z) (flat_map f zs) y (in_flat_map f zs x y there at)

pub from_flat_map : {X Y : Type 0} (f : X → List Y) (xs : List X) (y : Y) → In (flat_map f xs) y
    → (x : X) × In xs x × In (f x) y
from_flat_map f [] y there = absurd there
from_flat_map f (x ∷ xs) y there = grind (arith, from_append, from_flat_map f xs y)

pub any_none : {X : Type 0} (p : X → Bool) (xs : List X) → ((x : X) → In xs x → p x ≡ false) → list_any p xs ≡ false
any_none p [] none = refl
any_none p (x ∷ xs) none = rw (none x (inl refl)) (any_none p xs (λ y there. none y (inr there)))

pub rises_from : (xs : List ℕ) → AllPairs (λ x y. x < y) xs → Rises xs
rises_from [] pairs = tt
rises_from (x ∷ xs) pairs = (
  λ y there.
      let at : Contains xs y = contains_from xs y there in
      let within : at.0 < length xs = at.1 in
      let less : x < get_or xs at.0 y = pairs 0 (suc at.0) y (omega arith) (omega arith) in
      let is : get_or xs at.0 y ≡ y = at.2 in
      omega arith,
  rises_from xs (λ i j d before within. pairs (suc i) (suc j) d (omega arith) (omega arith)),
)
