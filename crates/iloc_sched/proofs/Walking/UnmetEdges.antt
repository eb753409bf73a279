-- How many edges are unmet once one more is over; for `Waiting::pass`, `open`.
use Rattle.iloc_sched.proofs.Common.{◌≡◌, ℕ, zero, suc, ◌+◌, ◌<◌, ◌≤◌, Bool, true, false, ◌≢◌, ◌⊎◌, refl, inl, inr, arith, cases_eq, count_from}

pub not_true : {P : Type 0} → (b : Bool) → b ≡ false → b ≡ true → P
not_true b is_false is_true = cc

unless : {X Y : Type 0} → X ⊎ Y → Bool → Bool
unless (inl _) b = false
unless (inr _) b = b

-- the same test, but x fails it
pub without : (ℕ → Bool) → ℕ → ℕ → Bool
without test x y = unless (cases_eq y x) (test y)

pub without_it : (test : ℕ → Bool) (x : ℕ) → without test x x ≡ false
unfolding without unless
without_it test x = elim (cases_eq x x) as (λ c. unless c (test x) ≡ false) [ inl _ ↦ refl | inr apart ↦ absurd (apart refl) ]

pub without_other : (test : ℕ → Bool) (x y : ℕ) → y ≢ x → without test x y ≡ test y
unfolding without unless
without_other test x y apart = grind (arith, unless)

-- the same numbers pass
pub count_same : (test test' : ℕ → Bool) (a n : ℕ) → ((y : ℕ) → a ≤ y → y < a + n → test' y ≡ test y)
    → count_from test' a n ≡ count_from test a n
count_same test test' a zero same = refl
count_same test test' a (suc n) same = grind (arith, count_same test test' a n)

-- x passes no more
pub count_less : (test test' : ℕ → Bool) (x : ℕ) → test x ≡ true → test' x ≡ false
    → ((y : ℕ) → y ≢ x → test' y ≡ test y) → (a n : ℕ) → a ≤ x → x < a + n
    → count_from test a n ≡ count_from test' a n + 1
count_less test test' x was is others a zero from below = absurd (omega arith)
count_less test test' x was is others a (suc n) from below =
    grind (arith, count_same, count_less test test' x was is others a n from)

-- none passes
pub count_none : (test : ℕ → Bool) (a n : ℕ) → count_from test a n ≡ 0 → (y : ℕ) → a ≤ y → y < a + n → test y ≡ false
count_none test a zero none y from below = absurd (omega arith)
count_none test a (suc n) none y from below = grind (arith, count_none test a n)

-- one passes
pub count_some : (test : ℕ → Bool) (a n : ℕ) → 0 < count_from test a n
    → (y : ℕ) × (a ≤ y) × (y < a + n) × (test y ≡ true)
count_some test a zero some = absurd (omega arith)
count_some test a (suc n) some = grind (arith, count_some test a n)

-- all pass
pub count_all : (test : ℕ → Bool) → ((y : ℕ) → test y ≡ true) → (a n : ℕ) → count_from test a n ≡ n
count_all test all a zero = refl
count_all test all a (suc n) = grind (arith, count_all test all a n)
