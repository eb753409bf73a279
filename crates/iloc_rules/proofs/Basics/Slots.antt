-- In which slots of a table its operations stand, each in one; for the laws on lawful schedules.
use Rattle.iloc_rules.proofs.Common.{◌≡◌, ℕ, zero, suc, ◌+◌, ◌<◌, ◌≤◌, Bool, true, false, cond, List, [], ◌∷◌, ◌++◌, length, ◌==◌, Some, count_by, option_to_list, sym, refl, ap, ◌∙◌, subst, inl, inr, add-one, arith, eq-eqb, eqb-true, cases_eq, sum_by-cons, Op, by_bool, IsTable, holds, issue_cycle, row_at, slots, times_issued, Row, In}
use Rattle.iloc_timed.proofs.Counts.{count_by_some, count_by_none}
use Rattle.iloc_rules.proofs.Basics.Members.{contains_from, from_append, in_left, in_right, any_at, from_any}
use Rattle.iloc_rules.proofs.Basics.Ordered.{Ordered, ordered_append, ordered_pair}

pub count_by-cons : {X : Type 0} → (p : X → Bool) (x : X) (xs : List X)
    → count_by p (x ∷ xs) ≡ cond (p x) 1 0 + count_by p xs
count_by-cons p x xs = sum_by-cons (λ y. cond (p y) 1 0) x xs

pub count_some : {X : Type 0} → (p : X → Bool) (xs : List X) (x : X) → In xs x → p x ≡ true → 1 ≤ count_by p xs
count_some p xs x there passes = count_by_some p xs (any_at p xs x there passes)

-- in how many slots of the row operation i stands
abbrev pub count_in : Row → ℕ → ℕ
count_in row i = count_by (λ j. i == j) (slots row)

pub times_issued-cons : (row : Row) (rows : List Row) (i : ℕ)
    → times_issued (row ∷ rows) i ≡ count_in row i + times_issued rows i
times_issued-cons row rows i = sum_by-cons (λ r. count_in r i) row rows

pub holds_from : (row : Row) (i : ℕ) → In (slots row) i → holds row i ≡ true
holds_from row i there = any_at (λ j. i == j) (slots row) i there (eq-eqb i i refl)

pub from_holds : (row : Row) (i : ℕ) → holds row i ≡ true → In (slots row) i
from_holds row i is = grind (arith, eqb-true, from_any)

pub count_in_some : (row : Row) (i : ℕ) → In (slots row) i → 1 ≤ count_in row i
count_in_some row i there = count_some (λ j. i == j) (slots row) i there (eq-eqb i i refl)

pub count_in_none : (row : Row) (i : ℕ) → holds row i ≡ false → count_in row i ≡ 0
count_in_none row i none = count_by_none (λ j. i == j) (slots row) none

pub count_in_twice : (row : Row) (i : ℕ) → row.one ≡ Some i → row.zero ≡ Some i → 2 ≤ count_in row i
count_in_twice row i one two = grind (arith, eq-eqb)

pub count_in_within : (rows : List Row) (c i : ℕ) → count_in (row_at rows c) i ≤ times_issued rows i
count_in_within [] c i = omega arith
count_in_within (row ∷ rows) zero i = subst (λ n. count_in row i ≤ n) (sym (times_issued-cons row rows i)) (omega arith)
count_in_within (row ∷ rows) (suc c) i = grind (arith, times_issued-cons, count_in_within rows c i)

-- an operation that stands in one slot is issued at the cycle of a row where it stands
pub issued_there : (rows : List Row) (c i : ℕ) → times_issued rows i ≡ 1 → In (slots (row_at rows c)) i
    → issue_cycle rows i ≡ c
issued_there [] c i once there = absurd there
issued_there (row ∷ rows) zero i once there = rw (holds_from row i there) refl
issued_there (row ∷ rows) (suc c) i once there =
    let sum : count_in row i + times_issued rows i ≡ 1 = sym (times_issued-cons row rows i) ∙ once in
    by_bool (holds row i)
    (λ t.
    let here : 1 ≤ count_in row i = count_in_some row i (from_holds row i t) in
    let later : 1 ≤ count_in (row_at rows c) i = count_in_some (row_at rows c) i there in
    let more : count_in (row_at rows c) i ≤ times_issued rows i = count_in_within rows c i in
    absurd (omega arith))
    (λ t.
    let none : count_in row i ≡ 0 = count_in_none row i t in
    let rest : issue_cycle rows i ≡ c = issued_there rows c i (omega arith) there in
    rw (t, rest) (omega arith))

-- an operation that is issued stands in the row of its cycle
pub stands_there : (rows : List Row) (i : ℕ) → issue_cycle rows i < length rows
    → In (slots (row_at rows (issue_cycle rows i))) i
stands_there [] i within = absurd (omega arith)
stands_there (row ∷ rows) i within =
    by_bool (holds row i)
    (λ t. rw t (from_holds row i t))
    (λ t. let below : issue_cycle rows i + 1 < suc (length rows) = rw t at within in
    rw (t, add-one) (stands_there rows i (omega arith)))

pub is_issued : (rows : List Row) (i : ℕ) → 1 ≤ times_issued rows i → issue_cycle rows i < length rows
is_issued [] i once = absurd (omega arith)
is_issued (row ∷ rows) i once =
    by_bool (holds row i)
    (λ t. rw t (omega arith))
    (λ t.
    let none : count_in row i ≡ 0 = count_in_none row i t in
    let sum : times_issued (row ∷ rows) i ≡ count_in row i + times_issued rows i = times_issued-cons row rows i in
    let more : 1 ≤ count_in row i + times_issued rows i = subst (λ n. 1 ≤ n) sum once in
    let rest : issue_cycle rows i < length rows = is_issued rows i (omega arith) in
    rw t (omega arith))

-- the operations that are issued before cycle c, the latest first
abbrev pub numbers_before : List Row → ℕ → List ℕ
numbers_before rows zero = []
numbers_before rows (suc c) = slots (row_at rows c) ++ numbers_before rows c

-- the first is issued no earlier than the second, and is another
pub record ComesLater (rows : List Row) (i j : ℕ) : Type 0 where
  pub later : issue_cycle rows j ≤ issue_cycle rows i
  pub apart : i ≡ j → ⊥

module _ (ops : List Op) (rows : List Row) (table : IsTable ops rows) where
  pub within : (c i : ℕ) → In (slots (row_at rows c)) i → i < length ops
  within c i there = table.in_range c i (contains_from (slots (row_at rows c)) i there)

  pub cycle_is : (c i : ℕ) → In (slots (row_at rows c)) i → issue_cycle rows i ≡ c
  cycle_is c i there = issued_there rows c i (table.once i (within c i there)) there

  pub issued_within : (i : ℕ) → i < length ops → issue_cycle rows i < length rows
  issued_within i below = is_issued rows i (let once : times_issued rows i ≡ 1 = table.once i below in omega arith)

  pub issued_early : (c i : ℕ) → In (numbers_before rows c) i → (i < length ops) × (issue_cycle rows i < c)
  issued_early zero i there = absurd there
  issued_early (suc c) i there = elim (from_append (slots (row_at rows c)) (numbers_before rows c) i there) [
    | inl here ↦ let at : issue_cycle rows i ≡ c = cycle_is c i here in (within c i here, omega arith)
    | inr rest ↦ let before : (i < length ops) × (issue_cycle rows i < c) = issued_early c i rest in
        (before.0, omega arith)
  ]

  pub early_issued : (c i : ℕ) → i < length ops → issue_cycle rows i < c → In (numbers_before rows c) i
  early_issued zero i below early = absurd (omega arith)
  early_issued (suc c) i below early = elim (cases_eq (issue_cycle rows i) c) [
    | inl here ↦ in_left _ _ i (subst (λ k. In (slots (row_at rows k)) i) here
        (stands_there rows i (issued_within i below)))
    | inr apart ↦ in_right (slots (row_at rows c)) _ i (early_issued c i below (omega arith))
  ]

  one_slot : (c i : ℕ) → (row_at rows c).one ≡ Some i → (row_at rows c).zero ≡ Some i → ⊥
  one_slot c i one two =
      let twice : 2 ≤ count_in (row_at rows c) i = count_in_twice (row_at rows c) i one two in
      let there : In (slots (row_at rows c)) i = rw one (inl refl) in
      let once : times_issued rows i ≡ 1 = table.once i (within c i there) in
      let most : count_in (row_at rows c) i ≤ times_issued rows i = count_in_within rows c i in
      omega arith

  row_in_order : (c : ℕ) → Ordered (ComesLater rows) (slots (row_at rows c))
  row_in_order c = ordered_pair (ComesLater rows) (row_at rows c).one (row_at rows c).zero (λ x y one two. record {
    later =
        let first : issue_cycle rows x ≡ c =
        cycle_is c x (in_left (option_to_list (row_at rows c).one) (option_to_list (row_at rows c).zero) x
        (rw one (inl refl))) in
        let second : issue_cycle rows y ≡ c =
        cycle_is c y (in_right (option_to_list (row_at rows c).one) (option_to_list (row_at rows c).zero) y
        (rw two (inl refl))) in
        omega arith;
    apart = λ same. one_slot c x one (two ∙ ap Some (sym same));
  })

  pub issued_in_order : (c : ℕ) → Ordered (ComesLater rows) (numbers_before rows c)
  issued_in_order zero = tt
  issued_in_order (suc c) = grind (arith, cycle_is, issued_early, ordered_append, row_in_order, issued_in_order c)
