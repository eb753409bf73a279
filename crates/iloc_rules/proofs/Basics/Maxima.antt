-- The greatest of some numbers; for priorities, cycles and bounds.
use Rattle.iloc_rules.proofs.Common.{◌≡◌, ℕ, ◌≤◌, max, ◌⊎◌, List, [], ◌∷◌, fold, refl, inl, inr, arith, cases_lt, le_fold_max, In}

pub fold_max_each : (a : ℕ) (xs : List ℕ) (x : ℕ) → In xs x → x ≤ fold max a xs
fold_max_each a [] x there = absurd there
fold_max_each a (y ∷ ys) x (inl here) = grind (arith, le_fold_max)
fold_max_each a (y ∷ ys) x (inr there) = fold_max_each (max a y) ys x there

pub max_is : (a b : ℕ) → (max a b ≡ a) ⊎ (max a b ≡ b)
max_is a b = elim (cases_lt a b) [ inl less ↦ inr (omega arith) | inr more ↦ inl (omega arith) ]

pub fold_max_reached : (a : ℕ) (xs : List ℕ) → (fold max a xs ≡ a) ⊎ In xs (fold max a xs)
fold_max_reached a [] = inl refl
fold_max_reached a (x ∷ xs) = grind (arith, max_is, fold_max_reached (max a x) xs)
