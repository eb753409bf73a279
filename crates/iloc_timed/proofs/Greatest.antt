-- The greatest of a list of numbers.
use Rattle.std.proofs.Common.{◌<◌, ◌≤◌, ℕ, zero, suc, List, [], ◌∷◌, length, get_or, max, arith}
use Rattle.std.specs.Prelude.{fold}

-- the greatest is a bound, and the least one
pub le_fold_max : (a : ℕ) (xs : List ℕ) → a ≤ fold max a xs
le_fold_max a [] = omega arith
le_fold_max a (x ∷ xs) = let rest : max a x ≤ fold max (max a x) xs = le_fold_max (max a x) xs in omega arith

pub item_le_fold_max : (a : ℕ) (xs : List ℕ) (k : ℕ) → k < length xs → get_or xs k 0 ≤ fold max a xs
item_le_fold_max a [] k within = absurd (omega arith)
item_le_fold_max a (x ∷ xs) zero within = grind (arith, le_fold_max)
item_le_fold_max a (x ∷ xs) (suc k) within = item_le_fold_max (max a x) xs k (omega arith)

pub fold_max_le : (a : ℕ) (xs : List ℕ) (m : ℕ) → a ≤ m → ((k : ℕ) → k < length xs → get_or xs k 0 ≤ m)
    → fold max a xs ≤ m
fold_max_le a [] m first all = first
fold_max_le a (x ∷ xs) m first all =
    let here : x ≤ m = all 0 (omega arith) in
    fold_max_le (max a x) xs m (omega arith) (λ k within. all (suc k) (omega arith))
