-- How many numbers pass a test; for `laws::least_bounds_the_cycles`.
use Rattle.iloc_bound.proofs.Common.{◌≡◌, ℕ, zero, suc, ◌+◌, ◌/◌, ◌<◌, ◌≤◌, Bool, true, false, cond, ◌&&◌, ◌||◌, List, [], ◌∷◌, ◌++◌, map, length, nat_le, ◌==◌, count_by, filter, IsPermutation, sym, refl, ap, ◌∙◌, ap₂, subst₂, inl, inr, arith, nat_tests, sum_by-IsPermutation, sum_by-append, range_with_len, from_any, count_by-cons, In}
use Rattle.std.proofs.Math.Nat.{div-mul-le_self}
use Rattle.std.proofs.lemmas.Nat.{le-div}
use Rattle.iloc_timed.proofs.Counts.{count_by_none}

pub count-permutation : {X : Type 0} → (p : X → Bool) (xs ys : List X) → IsPermutation xs ys
    → count_by p ys ≡ count_by p xs
count-permutation p xs ys h = sum_by-IsPermutation (λ y. cond (p y) 1 0) xs ys h

pub count-append : {X : Type 0} → (p : X → Bool) (xs ys : List X) → count_by p (xs ++ ys) ≡ count_by p xs + count_by p ys
count-append p xs ys = sum_by-append (λ x. cond (p x) 1 0) xs ys

-- none is counted that fails
pub count-never : {X : Type 0} → (p : X → Bool) (xs : List X) → ((x : X) → In xs x → p x ≡ true → ⊥)
    → count_by p xs ≤ 0
count-never p xs h = grind (arith, count_by_none, from_any)

-- the tests of counts

pub at_least : (q p : ℕ) → nat_le q p ≡ true → q ≤ p
at_least q p h = grind (arith, nat_tests)

pub is_at_least : (q p : ℕ) → q ≤ p → nat_le q p ≡ true
is_at_least q p le = grind (arith, nat_tests)

pub count-map : {X Y : Type 0} → (p : Y → Bool) (f : X → Y) (xs : List X)
    → count_by p (map f xs) ≡ count_by (λ x. p (f x)) xs
count-map p f [] = refl
count-map p f (x ∷ xs) = count_by-cons p (f x) (map f xs) ∙ ap (λ n. cond (p (f x)) 1 0 + n) (count-map p f xs)
    ∙ sym (count_by-cons (λ y. p (f y)) x xs)

pub count-filter : {X : Type 0} → (p q : X → Bool) (xs : List X)
    → count_by p (filter q xs) ≡ count_by (λ x. q x && p x) xs
count-filter p q [] = refl
count-filter {X} p q (x ∷ xs) = by (q x) refl (count-filter p q xs)
  where
    by : (b : Bool) → q x ≡ b → count_by p (filter q xs) ≡ count_by (λ y. q y && p y) xs
        → count_by p (filter q (x ∷ xs)) ≡ count_by (λ y. q y && p y) (x ∷ xs)
    by true e rest =
        let here : filter q (x ∷ xs) ≡ x ∷ filter q xs = rw e refl in
        let both : (q x && p x) ≡ p x = rw e refl in
        ap (count_by p) here ∙ count_by-cons p x (filter q xs) ∙ ap₂ (λ b n. cond b 1 0 + n) (sym both) rest
        ∙ sym (count_by-cons (λ y. q y && p y) x xs)
    by false e rest =
        let here : filter q (x ∷ xs) ≡ filter q xs = rw e refl in
        let none : cond {A = ℕ} (q x && p x) 1 0 ≡ 0 = rw e refl in
        let both = count_by-cons (λ y. q y && p y) x xs in
        let same : count_by (λ y. q y && p y) (x ∷ xs) ≡ count_by (λ y. q y && p y) xs = omega arith in
        ap (count_by p) here ∙ rest ∙ sym same

-- what passes the first test passes the second
pub count-mono : {X : Type 0} → (p q : X → Bool) (xs : List X) → ((x : X) → In xs x → p x ≡ true → q x ≡ true)
    → count_by p xs ≤ count_by q xs
count-mono p q [] h = omega arith
count-mono {X} p q (x ∷ xs) h = grind (arith, count_by-cons, subst₂, count-mono p q xs (λ y there. h y (inr there)))

pub count-or : {X : Type 0} → (p q : X → Bool) (xs : List X)
    → count_by (λ x. p x || q x) xs ≤ count_by p xs + count_by q xs
count-or p q [] = omega arith
count-or {X} p q (x ∷ xs) =
    let rest : count_by (λ y. p y || q y) xs ≤ count_by p xs + count_by q xs = count-or p q xs in
    let first : cond {A = ℕ} (p x || q x) 1 0 ≤ cond (p x) 1 0 + cond (q x) 1 0 = by (p x) (q x) in
    let here = count_by-cons (λ y. p y || q y) x xs in
    grind (arith, count_by-cons)
  where
    by : (a b : Bool) → cond {A = ℕ} (a || b) 1 0 ≤ cond a 1 0 + cond b 1 0
    by true b = omega arith
    by false b = omega arith

-- Numbers of a range that stand in a list

late_none : (x a n : ℕ) → x < a → count_by (λ i. i == x) (range_with_len a n) ≡ 0
late_none x a zero h = refl
late_none x a (suc n) h = grind (arith, count_by-cons, nat_tests, late_none x (a + 1) n (omega arith))

one_at_most : (x a n : ℕ) → count_by (λ i. i == x) (range_with_len a n) ≤ 1
one_at_most x a zero = omega arith
one_at_most x a (suc n) = by (a == x) refl (one_at_most x (a + 1) n)
  where
    by : (b : Bool) → (a == x) ≡ b → count_by (λ i. i == x) (range_with_len (a + 1) n) ≤ 1
        → count_by (λ i. i == x) (range_with_len a (suc n)) ≤ 1
    by true e rest =
        let same : a ≡ x = grind (arith, nat_tests) in
        let none = late_none x (a + 1) n (omega arith) in
        let here = count_by-cons (λ i. i == x) a (range_with_len (a + 1) n) ∙ ap (λ b. cond b 1 0
        + count_by (λ i. i == x) (range_with_len (a + 1) n)) e in omega arith
    by false e rest =
        let here = count_by-cons (λ i. i == x) a (range_with_len (a + 1) n) ∙ ap (λ b. cond b 1 0
        + count_by (λ i. i == x) (range_with_len (a + 1) n)) e in omega arith

abbrev pub among : List ℕ → ℕ → Bool
among [] i = false
among (x ∷ xs) i = (i == x) || among xs i

pub in_among : (xs : List ℕ) (i : ℕ) → In xs i → among xs i ≡ true
in_among [] i h = absurd h
in_among (x ∷ xs) i (inl e) = let here : (i == x) ≡ true = grind (arith, nat_tests) in rw here refl
in_among (x ∷ xs) i (inr there) = grind (arith, in_among xs i there)

-- a range has no number twice
pub among-short : (xs : List ℕ) (a n : ℕ) → count_by (among xs) (range_with_len a n) ≤ length xs
among-short [] a n = none a n
  where
    none : (a n : ℕ) → count_by (λ i. false) (range_with_len a n) ≤ 0
    none a zero = omega arith
    none a (suc n) = let rest = none (a + 1) n in
        let here = count_by-cons (λ (i : ℕ). false) a (range_with_len (a + 1) n) in omega arith
among-short (x ∷ xs) a n = grind (arith, count-or, one_at_most x a n, among-short xs a n)

-- Quotients

pub div-mono : (w a b : ℕ) → 0 < w → a ≤ b → a / w ≤ b / w
div-mono w a b some h = le-div (a / w) b w some (let less = div-mul-le_self a w in omega arith)
