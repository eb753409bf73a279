-- The last number below n of which something holds; for what stands last before an operation (`Lasts::note`).
use Rattle.iloc_sched.proofs.Common.{◌≡◌, ℕ, ◌+◌, ◌<◌, Some, Option, arith, IsLast}

-- it depends only on what holds below n
pub last_same : (P Q : ℕ → Type 0) (n : ℕ) (o : Option ℕ) → ((k : ℕ) → k < n → P k → Q k)
    → ((k : ℕ) → k < n → Q k → P k) → IsLast P n o → IsLast Q n o
last_same P Q n o to back last = grind arith

pub last_here : (P : ℕ → Type 0) (n : ℕ) → P n → IsLast P (n + 1) (Some n)
last_here P n here = (omega arith, here, λ k after below other. absurd (omega arith))

pub last_before : (P : ℕ → Type 0) (n : ℕ) (o : Option ℕ) → (P n → ⊥) → IsLast P n o → IsLast P (n + 1) o
last_before P n o not last = grind arith

-- with nothing after it, it is the last
pub last_is : (P : ℕ → Type 0) (n : ℕ) (o : Option ℕ) (i : ℕ) → IsLast P n o → i < n → P i
    → ((k : ℕ) → i < k → k < n → P k → ⊥) → o ≡ Some i
last_is P n o i last below here none = grind arith
