-- One bit of a word.
use Rattle.iloc_sched.proofs.Common.{◌≡◌, ℕ, ◌-◌, ◌*◌, ◌%◌, ◌^◌, ◌<◌, min, max, Bool, true, false, ◌||◌, eqb, ◌≢◌, set, bit_and, bit_or, ap, ◌∙◌, arith, pow_pos, w64, eq-eqb, and_le_l, le_or_r, one_shl, bit_at-lt, bit_at-zero, bit_at_and, bit_at_clear_other, bit_at_clear_same, bit_at_not, bit_at_set_other, bit_at_set_same, bit_at, bit_not, from_bool}
use lib.Bits.{or_zero_r}

-- 1 for true, as `u64::from` gives it
abbrev pub one_if : Bool → ℕ
one_if b = from_bool b

no_shift : (k : ℕ) → 0 * 2 ^ k % 2 ^ 64 ≡ 0
no_shift k = omega arith

-- n | b << k
pub or_same : (n k : ℕ) → k < 64 → (b : Bool) → bit_at (bit_or n (one_if b * 2 ^ k % 2 ^ 64)) k ≡ max (bit_at n k) (one_if b)
or_same n k small true = bit_at_set_same w64 n k small ∙ omega (arith, bit_at-lt n k)
or_same n k small false = ap (λ m. bit_at (bit_or n m) k) (no_shift k) ∙ ap (λ m. bit_at m k) (or_zero_r n) ∙ omega arith

pub or_other : (n k : ℕ) → k < 64 → (b : Bool) → (i : ℕ) → i ≢ k → bit_at (bit_or n (one_if b * 2 ^ k % 2 ^ 64)) i ≡ bit_at n i
or_other n k small true i apart = bit_at_set_other w64 n k small i apart
or_other n k small false i apart = ap (λ m. bit_at (bit_or n m) i) (no_shift k) ∙ ap (λ m. bit_at m i) (or_zero_r n)

pub or_some : (n k : ℕ) → k < 64 → (b : Bool) → min 1 (bit_or n (one_if b * 2 ^ k % 2 ^ 64)) ≡ max (min 1 n) (one_if b)
or_some n k small true = omega (arith, one_shl k 64 small, pow_pos k, le_or_r n (1 * 2 ^ k % 2 ^ 64))
or_some n k small false = ap (λ m. min 1 (bit_or n m)) (no_shift k) ∙ ap (min 1) (or_zero_r n) ∙ omega arith

-- n & !(b << k)
and_all : (n k i : ℕ) → i < 64 → bit_at (bit_and n (2 ^ 64 - 1 - 0 * 2 ^ k % 2 ^ 64)) i ≡ bit_at n i
and_all n k i within = grind (arith, bit_at-lt n i, bit_at-zero i, bit_at_and n (bit_not w64 0) i, bit_at_not w64 0 i, no_shift k)

pub and_same : (n k : ℕ) → k < 64 → (b : Bool) → bit_at (bit_and n (2 ^ 64 - 1 - one_if b * 2 ^ k % 2 ^ 64)) k ≡ min (bit_at n k) (1 - one_if b)
and_same n k small true = bit_at_clear_same w64 n k small ∙ omega arith
and_same n k small false = and_all n k k small ∙ omega (arith, bit_at-lt n k)

pub and_other : (n k : ℕ) → k < 64 → (b : Bool) → (i : ℕ) → i < 64 → i ≢ k
    → bit_at (bit_and n (2 ^ 64 - 1 - one_if b * 2 ^ k % 2 ^ 64)) i ≡ bit_at n i
and_other n k small true i within apart = bit_at_clear_other w64 n k small i within apart
and_other n k small false i within apart = and_all n k i within

pub test_added : (b : Bool) (x : ℕ) → x < 2 → eqb (max x (one_if b)) 1 ≡ (b || eqb x 1)
test_added b x small = grind (arith, eq-eqb)

-- the set bit of a word that is cleared makes it smaller
pub cleared_less : (n k : ℕ) → k < 64 → bit_at n k ≡ 1 → bit_and n (2 ^ 64 - 1 - 1 * 2 ^ k % 2 ^ 64) < n
cleared_less n k small set = grind (arith, and_le_l n (2 ^ 64 - 1 - 1 * 2 ^ k % 2 ^ 64), bit_at_clear_same w64 n k small)

-- a word that is 0 has no bit
pub no_bit : (n i : ℕ) → n ≡ 0 → bit_at n i ≡ 0
no_bit n i e = ap (λ x. bit_at x i) e ∙ bit_at-zero i
