-- Two sources of a numbering have two places; for `rename` (`once`, `outcome`).
use Rattle.iloc_rules.proofs.Common.{◌≡◌, true, false, ◌||◌, ◌≢◌, List, [], ◌∷◌, ◌++◌, ap, inl, inr, arith, eq-eqb, eqb-true, or_right, list_any, Reg, by_bool, Source, is_source, name_of, place_of, struck, In, Stands}

pub is_source-refl : (s : Source) → is_source s s ≡ true
is_source-refl s = grind (arith, eq-eqb)

pub is_source-true : (s t : Source) → is_source s t ≡ true → s ≡ t
is_source-true s t same = grind (arith, eqb-true)

pub is_source-false : (s t : Source) → s ≢ t → is_source s t ≡ false
is_source-false s t apart = by_bool (is_source s t) (λ same. absurd (apart (is_source-true s t same))) (λ is. is)

pub stands_in : (sources : List Source) (s : Source) → In sources s → Stands sources s
stands_in [] s there = absurd there
stands_in (x ∷ rest) s (inl here) = grind (arith, is_source-refl)
stands_in (x ∷ rest) s (inr there) = or_right _ _ (stands_in rest s there)

pub stands_left : (xs ys : List Source) (s : Source) → Stands xs s → Stands (xs ++ ys) s
stands_left [] ys s there = absurd cc
stands_left (x ∷ xs) ys s there = grind (arith, stands_left xs ys s)

pub stands_right : (xs ys : List Source) (s : Source) → Stands ys s → Stands (xs ++ ys) s
stands_right [] ys s there = there
stands_right (x ∷ xs) ys s there = or_right _ _ (stands_right xs ys s there)

-- what stands in the list stood before, or stands in what is left of the list
pub stands_struck : (sources stood : List Source) (s : Source) → Stands sources s
    → (list_any (is_source s) stood || list_any (is_source s) (struck stood sources)) ≡ true
stands_struck [] stood s there = absurd cc
stands_struck (x ∷ rest) stood s there =
    grind (arith, is_source-true, or_right, stands_struck rest stood s, stands_struck rest (x ∷ stood) s)

-- two sources of a numbering have one place only if they are one source
pub place_apart : (sources : List Source) (s t : Source) → Stands sources s → Stands sources t
    → place_of sources s ≡ place_of sources t → s ≡ t
place_apart [] s t there other same = absurd cc
place_apart (x ∷ rest) s t there other same = grind (arith, is_source-true, place_apart rest s t)

-- the same of the registers that are named for them
pub name_apart : (sources : List Source) (s t : Source) → Stands sources s → Stands sources t
    → name_of sources s ≡ name_of sources t → s ≡ t
name_apart sources s t there other same = place_apart sources s t there other (ap (λ (r : Reg). r.0) same)
