-- Lists of numbers that differ, led one to one into others, are no longer than those; and numbers that are counted.
use Rattle.iloc_validation.proofs.Common.{◌≡◌, ℕ, zero, suc, ◌+◌, ◌<◌, ◌≤◌, Bool, cond, List, [], ◌∷◌, ◌++◌, length, if◌then◌else◌, ◌==◌, count_by, sym, refl, ap, ◌∙◌, inl, inr, arith, eq-eqb, ne_eqb, cases_eq, cases_lt, sum_by-append, sum_by-cons, Row, from_append, in_left, in_right, Ordered, ordered_append, numbers_before, In, issued_before, numbers_below}

abbrev pub Apart : ℕ → ℕ → Type 0
Apart j k = j ≡ k → ⊥

-- a list without the first of a number
abbrev without : ℕ → List ℕ → List ℕ
without q [] = []
without q (y ∷ ys) = if q == y then ys else y ∷ without q ys

length-without : (q : ℕ) (ys : List ℕ) → In ys q → length ys ≡ suc (length (without q ys))
length-without q [] there = absurd there
length-without q (y ∷ ys) there = elim (cases_eq q y) [
  | inl same ↦ rw (eq-eqb q y same) refl
  | inr other ↦ elim there [
    | inl here ↦ absurd (other (sym here))
    | inr rest ↦ rw (ne_eqb q y other) (ap suc (length-without q ys rest))
  ]
]

in_without : (q : ℕ) (ys : List ℕ) (x : ℕ) → In ys x → Apart x q → In (without q ys) x
in_without q [] x there apart = absurd there
in_without q (y ∷ ys) x there apart = elim (cases_eq q y) [
  | inl same ↦ elim there [
    | inl here ↦ absurd (apart (sym here ∙ sym same))
    | inr rest ↦ rw (eq-eqb q y same) rest
  ]
  | inr other ↦ elim there [
    | inl here ↦ rw (ne_eqb q y other) (inl here)
    | inr rest ↦ rw (ne_eqb q y other) (inr (in_without q ys x rest apart))
  ]
]

pub fewer : (xs ys : List ℕ) (f : ℕ → ℕ) → Ordered Apart xs → ((x : ℕ) → In xs x → In ys (f x))
    → ((x y : ℕ) → In xs x → In xs y → f x ≡ f y → x ≡ y) → length xs ≤ length ys
fewer [] ys f apart each one = omega arith
fewer (x ∷ xs) ys f apart each one =
    grind (
      arith,
      in_without,
      length-without,
      fewer xs (without (f x) ys) f apart.1 (λ z there. in_without (f x) ys (f z) (each z (inr there)) (λ same. apart.0 z there (one x z (inl refl) (inr there) (sym same)))) (λ a b there there_too same. one a b (inr there) (inr there_too) same),
    )

-- Numbers below a number

pub below_from : (n k : ℕ) → In (numbers_below n) k → k < n
below_from zero k there = absurd there
below_from (suc n) k there = elim (from_append (numbers_below n) (n ∷ []) k there) [
  | inl before ↦ let less : k < n = below_from n k before in omega arith
  | inr last ↦ elim last [ inl here ↦ let same : n ≡ k = here in omega arith | inr none ↦ absurd none ]
]

pub in_below : (n k : ℕ) → k < n → In (numbers_below n) k
in_below zero k less = absurd (omega arith)
in_below (suc n) k less = elim (cases_lt k n) [
  | inl before ↦ in_left (numbers_below n) (n ∷ []) k (in_below n k before)
  | inr last ↦ let same : n ≡ k = omega arith in in_right (numbers_below n) (n ∷ []) k (inl same)
]

pub below_apart : (n : ℕ) → Ordered Apart (numbers_below n)
below_apart zero = tt
below_apart (suc n) = grind (arith, below_from, ordered_append, below_apart n)

-- Counts

pub count_append : (p : ℕ → Bool) (xs ys : List ℕ) → count_by p (xs ++ ys) ≡ count_by p xs + count_by p ys
count_append p xs ys = sum_by-append (λ x. cond {A = ℕ} (p x) 1 0) xs ys

pub count_single : (p : ℕ → Bool) (k : ℕ) → count_by p (k ∷ []) ≡ cond (p k) 1 0
count_single p k = grind (arith, sum_by-cons)

-- the order of issue counts as that which begins with the latest
pub count_issued : (p : ℕ → Bool) (rows : List Row) (c : ℕ)
    → count_by p (issued_before rows c) ≡ count_by p (numbers_before rows c)
count_issued p rows zero = refl
count_issued p rows (suc c) = grind (arith, count_append, count_issued p rows c)
