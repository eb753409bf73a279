-- One word of one set is written.
use Rattle.iloc_sched.proofs.Common.{◌≡◌, ℕ, zero, suc, ◌+◌, ◌*◌, ◌/◌, ◌%◌, ◌<◌, ◌≢◌, List, length, get_or, set, replicate, refl, ap, arith, get_or-set_other, get_or-set_at, bit_at, rank_bit, word_at}
use Rattle.iloc_sched.proofs.Basics.Cases.{by_eq}

pub by_both : {P : Type 0} → (t s u w : ℕ) → (t ≡ s → u ≡ w → P) → ((t ≡ s → u ≡ w → ⊥) → P) → P
by_both t s u w same apart = by_eq t s
    (λ first. by_eq u w (same first) (λ other. apart (λ _ second. other second)))
    (λ other. apart (λ first _. other first))

module _ (words : List ℕ) (s w v : ℕ) where
  pub cell_same : w * 37 + s < length words → word_at (set words (w * 37 + s) v) s w ≡ v
  cell_same there = get_or-set_at words (w * 37 + s) (w * 37 + s) v 0 refl there

  pub cell_other : s < 37 → (t u : ℕ) → t < 37 → (t ≡ s → u ≡ w → ⊥) → word_at (set words (w * 37 + s) v) t u ≡ word_at words t u
  cell_other small t u low apart = get_or-set_other words (w * 37 + s) (u * 37 + t) v 0 (λ same. apart (omega arith) (omega arith))

-- the word of set s that has rank k becomes v
module _ (words : List ℕ) (s k v : ℕ) (small : s < 37) (there : k / 64 * 37 + s < length words) where
  pub put_same : rank_bit (set words (k / 64 * 37 + s) v) s k ≡ bit_at v (k % 64)
  put_same = ap (λ x. bit_at x (k % 64)) (cell_same words s (k / 64) v there)

  pub put_other : ((i : ℕ) → i < 64 → i ≢ k % 64 → bit_at v i ≡ bit_at (word_at words s (k / 64)) i)
      → (t r : ℕ) → t < 37 → (t ≡ s → r ≡ k → ⊥) → rank_bit (set words (k / 64 * 37 + s) v) t r ≡ rank_bit words t r
  put_other others t r low apart = grind (arith, by_both, cell_other, cell_same)

pub read_replicate : {X : Type 0} (n : ℕ) (x : X) (k : ℕ) → get_or (replicate n x) k x ≡ x
read_replicate zero x k = refl
read_replicate (suc n) x zero = refl
read_replicate (suc n) x (suc k) = read_replicate n x k
