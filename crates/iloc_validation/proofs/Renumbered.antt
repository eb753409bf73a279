-- Rows in which each number is another, one to one: what stands where stays.
use Rattle.iloc_validation.proofs.Common.{◌≡◌, ℕ, zero, suc, ◌+◌, ◌<◌, cond, List, [], ◌∷◌, ◌++◌, map, length, ◌==◌, Some, None, count_by, Option, option_map, option_to_list, sym, refl, ap, ◌∙◌, ap₂, inl, inr, arith, eq-eqb, ne_eqb, cases_eq, map-append, list_any, Op, op_at, kind, holds, issue_cycle, keeps_units, kind_in, row_at, slots, times_issued, Row, in_left, in_right, count_by-cons, numbers_before, times_issued-cons, In, renumber}

pub slots_of : (f : ℕ → ℕ) (one zero : Option ℕ)
    → option_to_list (option_map f one) ++ option_to_list (option_map f zero)
    ≡ map f (option_to_list one ++ option_to_list zero)
slots_of f None None = refl
slots_of f _ None = refl
slots_of f _ _ = refl

pub mapped_twice : (g f : ℕ → ℕ) (o : Option ℕ) → option_map g (option_map f o) ≡ option_map (λ k. g (f k)) o
mapped_twice g f None = refl
mapped_twice g f (Some k) = refl

pub slots-renumber : (f : ℕ → ℕ) (row : Row) → slots (renumber f row) ≡ map f (slots row)
slots-renumber f row = slots_of f row.one row.zero

pub row_at-map : (f : ℕ → ℕ) (rows : List Row) (c : ℕ) → row_at (map (renumber f) rows) c ≡ renumber f (row_at rows c)
row_at-map f (row ∷ rows) (suc c) = row_at-map f rows c
row_at-map f rows c = refl

pub length-renumber : (f : ℕ → ℕ) (rows : List Row) → length (map (renumber f) rows) ≡ length rows
length-renumber f [] = refl
length-renumber f (row ∷ rows) = ap suc (length-renumber f rows)

pub slots_at-map : (f : ℕ → ℕ) (rows : List Row) (c : ℕ) → slots (row_at (map (renumber f) rows) c)
    ≡ map f (slots (row_at rows c))
slots_at-map f rows c = ap slots (row_at-map f rows c) ∙ slots-renumber f (row_at rows c)

pub numbers_before-map : (f : ℕ → ℕ) (rows : List Row) (c : ℕ)
    → numbers_before (map (renumber f) rows) c ≡ map f (numbers_before rows c)
numbers_before-map f rows zero = refl
numbers_before-map f rows (suc c) = grind (arith, map-append, slots_at-map, numbers_before-map f rows c)

-- numbers below n have numbers of their own
abbrev pub AreApartBelow : ℕ → (ℕ → ℕ) → Type 0
AreApartBelow n f = (j k : ℕ) → j < n → k < n → f j ≡ f k → j ≡ k

-- all numbers in the rows are below n
abbrev pub AreBelow : ℕ → List Row → Type 0
AreBelow n rows = (c k : ℕ) → In (slots (row_at rows c)) k → k < n

module _ (n : ℕ) (f : ℕ → ℕ) (apart : AreApartBelow n f) (k : ℕ) (below : k < n) where
  test_same : (j : ℕ) → j < n → (f k == f j) ≡ (k == j)
  test_same j within = grind (arith, cases_eq, eq-eqb, ne_eqb)

  any_same : (xs : List ℕ) → ((j : ℕ) → In xs j → j < n) → list_any (λ j. f k == j) (map f xs) ≡ list_any (λ j. k == j) xs
  any_same [] within = refl
  any_same (x ∷ xs) within = rw (test_same x (within x (inl refl)), any_same xs (λ j there. within j (inr there))) refl

  count_same : (xs : List ℕ) → ((j : ℕ) → In xs j → j < n) → count_by (λ j. f k == j) (map f xs) ≡ count_by (λ j. k == j) xs
  count_same [] within = refl
  count_same (x ∷ xs) within =
      count_by-cons (λ j. f k == j) (f x) (map f xs)
      ∙ ap₂ (λ b m. cond b 1 0 + m) (test_same x (within x (inl refl))) (count_same xs (λ j there. within j (inr there)))
      ∙ sym (count_by-cons (λ j. k == j) x xs)

  pub times_same : (rows : List Row) → AreBelow n rows → times_issued (map (renumber f) rows) (f k) ≡ times_issued rows k
  times_same [] within = refl
  times_same (row ∷ rows) within =
      times_issued-cons (renumber f row) (map (renumber f) rows) (f k)
      ∙ ap₂ (λ x y. x + y)
      (ap (count_by (λ j. f k == j)) (slots-renumber f row) ∙ count_same (slots row) (λ j there. within 0 j there))
      (times_same rows (λ c j there. within (suc c) j there))
      ∙ sym (times_issued-cons row rows k)

  pub cycle_same : (rows : List Row) → AreBelow n rows → issue_cycle (map (renumber f) rows) (f k) ≡ issue_cycle rows k
  cycle_same [] within = refl
  cycle_same (row ∷ rows) within =
      let first : holds (renumber f row) (f k) ≡ holds row k =
      ap (list_any (λ j. f k == j)) (slots-renumber f row) ∙ any_same (slots row) (λ j there. within 0 j there) in
      let rest : issue_cycle (map (renumber f) rows) (f k) ≡ issue_cycle rows k =
      cycle_same rows (λ c j there. within (suc c) j there) in
      rw (first, rest) refl

kind_same : (ops ops' : List Op) (f : ℕ → ℕ) (slot : Option ℕ)
    → ((k : ℕ) → slot ≡ Some k → kind (op_at ops' (f k)) ≡ kind (op_at ops k)) → kind_in ops' (option_map f slot) ≡ kind_in ops slot
kind_same ops ops' f None same = refl
kind_same ops ops' f (Some k) same = ap Some (same k refl)

pub units_same : (ops ops' : List Op) (f : ℕ → ℕ) (row : Row)
    → ((k : ℕ) → In (slots row) k → kind (op_at ops' (f k)) ≡ kind (op_at ops k))
    → keeps_units ops' (renumber f row) ≡ keeps_units ops row
units_same ops ops' f row same = grind (arith, in_left, in_right, kind_same, option_map, option_to_list)
