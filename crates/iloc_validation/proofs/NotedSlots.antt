-- What is noted of operations row by row, at their numbers.
use Rattle.iloc_validation.proofs.Common.{◌≡◌, ℕ, ◌+◌, ◌<◌, ◌≤◌, ◌⊎◌, List, length, slice_index, Some, None, Option, refl, arith, get_or-set_other, get_or-set_same, rules, cases_lt, Op, IsTable, issue_cycle, row_at, slots, times_issued, Row, count_in, count_in_twice, count_in_within, cycle_is, issued_within, stands_there, In, AreNotedBefore, with_number}
use Rattle.iloc_validation.proofs.SameIssues.{slot_cases, in_first, in_second}

pub length-with_number : (numbers : List ℕ) (slot : Option ℕ) (n : ℕ) → length (with_number numbers slot n) ≡ length numbers
length-with_number numbers None n = refl
length-with_number numbers (Some k) n = search rules

number_here : (numbers : List ℕ) (slot : Option ℕ) (n k : ℕ) → slot ≡ Some k → k < length numbers
    → slice_index (with_number numbers slot n) k ≡ n
number_here numbers slot n k is within = grind (arith, get_or-set_same)

number_other : (numbers : List ℕ) (slot : Option ℕ) (n k : ℕ) → (slot ≡ Some k → ⊥)
    → slice_index (with_number numbers slot n) k ≡ slice_index numbers k
number_other numbers slot n k other = grind (arith, get_or-set_other)

module _ (ops : List Op) (rows : List Row) (table : IsTable ops rows) (f : ℕ → ℕ) (c : ℕ) where
  pub at_zero : (k : ℕ) → (row_at rows c).zero ≡ Some k → issue_cycle rows k ≡ c
  at_zero k is = cycle_is ops rows table c k (in_second (row_at rows c).one (row_at rows c).zero k is)

  pub at_one : (k : ℕ) → (row_at rows c).one ≡ Some k → issue_cycle rows k ≡ c
  at_one k is = cycle_is ops rows table c k (in_first (row_at rows c).one (row_at rows c).zero k is)

  stands : (k : ℕ) → k < length ops → issue_cycle rows k ≡ c
      → ((row_at rows c).one ≡ Some k) ⊎ ((row_at rows c).zero ≡ Some k)
  stands k here at =
      let there : In (slots (row_at rows (issue_cycle rows k))) k = stands_there rows k (issued_within ops rows table k here) in
      slot_cases (row_at rows c).one (row_at rows c).zero k (rw at at there)

  apart_slots : (k : ℕ) → k < length ops → (row_at rows c).one ≡ Some k → (row_at rows c).zero ≡ Some k → ⊥
  apart_slots k here one two =
      let twice : 2 ≤ count_in (row_at rows c) k = count_in_twice (row_at rows c) k one two in
      let most : count_in (row_at rows c) k ≤ times_issued rows k = count_in_within rows c k in
      let once : times_issued rows k ≡ 1 = table.once k here in
      omega arith

  module _ (numbers : List ℕ) (so_far : AreNotedBefore (length ops) f rows c numbers) (first second : ℕ)
      (first_is : (k : ℕ) → (row_at rows c).zero ≡ Some k → first ≡ f k)
      (second_is : (k : ℕ) → (row_at rows c).one ≡ Some k → second ≡ f k) where
    abbrev once : List ℕ
    once = with_number numbers (row_at rows c).zero first

    size : length numbers ≡ length ops
    size = so_far.size

    noted : (k : ℕ) → k < length ops → ((row_at rows c).one ≡ Some k) ⊎ ((row_at rows c).zero ≡ Some k)
        → slice_index (with_number once (row_at rows c).one second) k ≡ f k
    noted k here h2 = grind (arith, apart_slots, length-with_number, number_here, number_other, size)

    pub one_row : AreNotedBefore (length ops) f rows (c + 1) (with_number once (row_at rows c).one second)
    one_row = grind (arith, at_one, at_zero, cases_lt, length-with_number, noted, number_other, size, stands)

pub all_noted : (ops : List Op) (rows : List Row) → IsTable ops rows → (f : ℕ → ℕ) (n : ℕ) (numbers : List ℕ)
    → length rows ≤ n → AreNotedBefore (length ops) f rows n numbers → (k : ℕ) → k < length ops
    → slice_index numbers k ≡ f k
all_noted ops rows table f n numbers past h3 k here = grind (arith, issued_within, noted)
