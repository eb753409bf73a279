-- Longest chains are the least numbers that keep all pairs; for priorities, starts, tails and the bounds.
use Rattle.iloc_rules.proofs.Common.{◌≡◌, ℕ, zero, suc, ◌+◌, ◌<◌, ◌≤◌, inl, inr, arith, IsChain}

-- what is at least the base and keeps the pairs is at least the chain, where pairs lead to a lower rank
module _ (size : ℕ) (Pair : ℕ → ℕ → ℕ → Type 0) (base value : ℕ → ℕ) (is : IsChain size Pair base value value)
    (rank : ℕ → ℕ) (falls : (i j d : ℕ) → Pair i j d → (j < size) × (rank j < rank i)) (other : ℕ → ℕ)
    (own : (i : ℕ) → i < size → base i ≤ other i) (pairs : (i j d : ℕ) → Pair i j d → d + other j ≤ other i) where
  least_below : (n i : ℕ) → rank i < n → i < size → value i ≤ other i
  least_below zero i low below = absurd (omega arith)
  least_below (suc n) i low below = elim (is.reached i below) [
    | inl alone ↦ let least = own i below in let same : value i ≡ base i = alone in omega arith
    | inr long ↦
        let fall = falls i long.0 long.1 long.2 in
        let rest : value long.0 ≤ other long.0 = least_below n long.0 (omega arith) fall.0 in
        let least = pairs i long.0 long.1 long.2 in
        omega arith
  ]

  pub least : (i : ℕ) → i < size → value i ≤ other i
  least i below = least_below (suc (rank i)) i (omega arith) below
