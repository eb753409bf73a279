-- The last number below n of which something holds; for `MemoryDependences`.
use Rattle.iloc_addresses.proofs.Common.{◌≡◌, ℕ, ◌+◌, ◌<◌, Some, Option, arith, IsLast}

pub last_here : (P : ℕ → Type 0) (n : ℕ) → P n → IsLast P (n + 1) (Some n)
last_here P n here = (omega arith, here, λ k after below other. absurd (omega arith))

pub last_before : (P : ℕ → Type 0) (n : ℕ) (o : Option ℕ) → (P n → ⊥) → IsLast P n o → IsLast P (n + 1) o
last_before P n o not last = grind arith

-- with nothing after it, it is the last
pub last_is : (P : ℕ → Type 0) (n : ℕ) (o : Option ℕ) (i : ℕ) → IsLast P n o → i < n → P i
    → ((k : ℕ) → i < k → k < n → P k → ⊥) → o ≡ Some i
last_is P n o i last below here none = grind arith
