-- Lists in which a relation holds of each element and each later one; for `pairs` (`ordered`) and the order of issue.
use Rattle.iloc_rules.proofs.Common.{◌≡◌, zero, suc, Bool, List, [], ◌∷◌, ◌++◌, map, get_or, Some, filter, Option, option_to_list, AllPairs, inr, arith, In}
use Rattle.iloc_rules.proofs.Basics.Members.{from_append, from_map, from_filter, in_at}

-- R holds of each element and each later one
abbrev pub Ordered : {X : Type 0} → (X → X → Type 0) → List X → Type 0
Ordered R [] = Unit {0}
Ordered {X} R (x ∷ xs) = ((y : X) → In xs y → R x y) × Ordered R xs

pub all_pairs : {X : Type 0} (R : X → X → Type 0) (xs : List X) → Ordered R xs → AllPairs R xs
all_pairs R [] ordered i j d before below = absurd (omega arith)
all_pairs R (x ∷ xs) ordered zero zero d before below = absurd (omega arith)
all_pairs R (x ∷ xs) ordered zero (suc j) d before below = ordered.0 (get_or xs j d) (in_at xs j d (omega arith))
all_pairs R (x ∷ xs) ordered (suc i) zero d before below = absurd (omega arith)
all_pairs R (x ∷ xs) ordered (suc i) (suc j) d before below = grind (arith, all_pairs R xs ordered.1 i j d)

pub ordered_append : {X : Type 0} (R : X → X → Type 0) (xs ys : List X) → Ordered R xs → Ordered R ys
    → ((x y : X) → In xs x → In ys y → R x y) → Ordered R (xs ++ ys)
ordered_append R [] ys left right across = right
ordered_append R (x ∷ xs) ys left right across =
    grind (arith, from_append, ordered_append R xs ys left.1 right (λ a b in_xs in_ys. across a b (inr in_xs) in_ys))

pub ordered_map : {X Y : Type 0} (R : X → X → Type 0) (S : Y → Y → Type 0) (f : X → Y) (xs : List X)
    → ((a b : X) → R a b → S (f a) (f b)) → Ordered R xs → Ordered S (map f xs)
ordered_map R S f [] keeps ordered = tt
ordered_map R S f (x ∷ xs) keeps ordered = grind (arith, from_map, ordered_map R S f xs keeps ordered.1)

pub ordered_pair : {X : Type 0} → (R : X → X → Type 0) (a b : Option X) → ((x y : X) → a ≡ Some x → b ≡ Some y → R x y)
    → Ordered R (option_to_list a ++ option_to_list b)
ordered_pair R a b across = grind arith

pub ordered_filter : {X : Type 0} → (R : X → X → Type 0) (p : X → Bool) (xs : List X) → Ordered R xs
    → Ordered R (filter p xs)
ordered_filter R p [] o = tt
ordered_filter R p (x ∷ xs) o = grind (arith, from_filter, ordered_filter R p xs o.1)
