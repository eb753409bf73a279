-- How many numbers of a range pass a test, for the counts of `Heuristic`.
use Rattle.iloc_rules.proofs.Common.{◌≡◌, ℕ, zero, suc, ◌+◌, ◌<◌, ◌≤◌, Bool, false, cond, count_by, refl, ap, ◌∙◌, arith, length-range_with_len, count_by-le-length, sum_by-cons, range_with_len}

pub count_first : (p : ℕ → Bool) (a n : ℕ) → count_by p (range_with_len a (suc n))
    ≡ cond (p a) 1 0 + count_by p (range_with_len (suc a) n)
count_first p a n =
    let next : a + 1 ≡ suc a = omega arith in
    sum_by-cons (λ k. cond (p k) 1 0) a (range_with_len (a + 1) n)
    ∙ ap (λ k. cond (p a) 1 0 + count_by p (range_with_len k n)) next

-- the numbers of a range, up to b and from b on
pub count_range : (p : ℕ → Bool) (a m n b : ℕ) → a + m ≡ b → count_by p (range_with_len a (m + n))
    ≡ count_by p (range_with_len a m) + count_by p (range_with_len b n)
count_range p a zero n b end = grind arith
count_range p a (suc m) n b end =
    let rest : count_by p (range_with_len (suc a) (m + n))
    ≡ count_by p (range_with_len (suc a) m) + count_by p (range_with_len b n) =
    count_range p (suc a) m n b (omega arith) in
    let size : suc m + n ≡ suc (m + n) = omega arith in
    grind (arith, count_first)

pub none_in_range : (p : ℕ → Bool) (a n : ℕ) → ((k : ℕ) → a ≤ k → k < a + n → p k ≡ false) → count_by p (range_with_len a n) ≡ 0
none_in_range p a zero none = refl
none_in_range p a (suc n) none = grind (arith, count_first, none_in_range p (suc a) n (λ k after below. none k (omega arith) (omega arith)))

-- where each number passes one test as often as two others together
pub count_sum : (p q r : ℕ → Bool) (a n : ℕ)
    → ((k : ℕ) → a ≤ k → k < a + n → cond {A = ℕ} (p k) 1 0 ≡ cond {A = ℕ} (q k) 1 0 + cond {A = ℕ} (r k) 1 0)
    → count_by p (range_with_len a n) ≡ count_by q (range_with_len a n) + count_by r (range_with_len a n)
count_sum p q r a zero each = refl
count_sum p q r a (suc n) each = grind (arith, count_first, count_sum p q r (suc a) n (λ k after below. each k (omega arith) (omega arith)))

pub count_most : (p : ℕ → Bool) (a n : ℕ) → count_by p (range_with_len a n) ≤ n
count_most p a n = grind (arith, count_by-le-length, length-range_with_len)
