-- Each operation of rows with numbers is in exactly one slot.
use Rattle.iloc_rows.proofs.Common.{◌≡◌, ℕ, zero, suc, ◌+◌, ◌<◌, ◌≤◌, true, cond, ◌≢◌, List, [], ◌∷◌, ◌++◌, length, ◌==◌, Some, None, count_by, Option, option_to_list, refl, ◌∙◌, inl, inr, arith, length-append, lt-ltb, eq-eqb, ne_eqb, cases_lt, Op, Row, filled, numbered, ops_in, slot}
use Rattle.std.proofs.lemmas.List.Sums.{sum_by-cons}
use Rattle.iloc_timed.specs.Rows.{slots, times_issued}
use Rattle.iloc_timed.specs.Schedule.{AreOnce, AreInRange, in_range}
use Rattle.iloc_rows.proofs.Numbering.{ops_of_row, row_after}

-- One slot

-- how often a number is in a slot
abbrev pub times_in : ℕ → Option ℕ → ℕ
times_in i None = 0
times_in i (Some j) = cond (i == j) 1 0

-- the next number is there alone, and only where the slot is filled
slot_here : (n : ℕ) (op : Op) → times_in n (slot n op) ≡ length (filled op)
slot_here n op = grind (arith, eq-eqb)

slot_elsewhere : (i n : ℕ) (op : Op) → (i ≡ n → ⊥) → times_in i (slot n op) ≡ 0
slot_elsewhere i n op apart = grind (arith, ne_eqb)

in_slot : (i n : ℕ) (op : Op) → (i ≡ n → times_in i (slot n op) ≡ length (filled op)) × (i ≢ n → times_in i (slot n op) ≡ 0)
in_slot i n op = (λ here. rw here (slot_here n op), slot_elsewhere i n op)

one_at_most : (op : Op) → length (filled op) ≤ 1
one_at_most op = grind arith

-- One row

pub two_slots : (i : ℕ) (one two : Option ℕ)
    → count_by (λ j. i == j) (option_to_list two ++ option_to_list one) ≡ times_in i one + times_in i two
two_slots i one two = grind (arith, count_by, sum_by-cons)

abbrev times_in_row : ℕ → ℕ → Op × Op → ℕ
times_in_row i n r = count_by (λ j. i == j) (slots (row_after n r))

-- the next numbers alone stand in a row
record InRow (i n : ℕ) (r : Op × Op) : Type 0 where
  before : i < n → times_in_row i n r ≡ 0
  here : n ≤ i → i < n + length (ops_of_row r) → times_in_row i n r ≡ 1
  beyond : n + length (ops_of_row r) ≤ i → times_in_row i n r ≡ 0

in_row : (i n : ℕ) (r : Op × Op) → InRow i n r
in_row i n r =
    let both : times_in_row i n r ≡ times_in i (slot n r.0) + times_in i (slot (n + length (filled r.0)) r.1) =
    two_slots i (slot n r.0) (slot (n + length (filled r.0)) r.1) in
    let size : length (ops_of_row r) ≡ length (filled r.0) + length (filled r.1) =
    length-append (filled r.0) (filled r.1) in
    let few = one_at_most r.0 in
    let few' = one_at_most r.1 in
    let first = in_slot i n r.0 in
    let second = in_slot i (n + length (filled r.0)) r.1 in
    record {
      before = λ b. grind (arith, both, size, first.0, first.1, second.0, second.1);
      here = λ b h. grind (arith, both, size, few, few', first.0, first.1, second.0, second.1);
      beyond = λ b. grind (arith, both, size, first.0, first.1, second.0, second.1);
    }

-- All rows

row_times : (i n : ℕ) (r : Op × Op) (rows : List Row)
    → times_issued (row_after n r ∷ rows) i ≡ times_in_row i n r + times_issued rows i
row_times i n r rows = sum_by-cons (λ row. count_by (λ j. i == j) (slots row)) (row_after n r) rows

none_from : (n : ℕ) (rs : List (Op × Op)) (i : ℕ) → i < n → times_issued (numbered n rs) i ≡ 0
none_from n [] i below = refl
none_from n (r ∷ rs) i below = row_times i n r (numbered (n + length (ops_of_row r)) rs) ∙ omega (
  arith,
  (in_row i n r).before below,
  none_from (n + length (ops_of_row r)) rs i (omega arith),
)

once_from : (n : ℕ) (rs : List (Op × Op)) (i : ℕ) → n ≤ i → i < n + length (ops_in rs)
    → times_issued (numbered n rs) i ≡ 1
once_from n [] i from upto = absurd (omega arith)
once_from n (r ∷ rs) i from upto =
    let size : length (ops_in (r ∷ rs)) ≡ length (ops_of_row r) + length (ops_in rs) =
    length-append (ops_of_row r) (ops_in rs) in
    row_times i n r (numbered (n + length (ops_of_row r)) rs)
    ∙ elim (cases_lt i (n + length (ops_of_row r))) [
      | inl here ↦ omega (
        arith,
        (in_row i n r).here from here,
        none_from (n + length (ops_of_row r)) rs i here,
      )
      | inr beyond ↦ omega (
        arith,
        (in_row i n r).beyond beyond,
        once_from (n + length (ops_of_row r)) rs i beyond (omega (arith, size)),
      )
    ]

-- each operation is in exactly one slot
pub numbered_once : (rs : List (Op × Op)) → AreOnce (length (ops_in rs)) (numbered 0 rs)
numbered_once rs i below = once_from 0 rs i (omega arith) (omega arith)

-- Numbers

row_in_range : (count n : ℕ) (r : Op × Op) → n + length (ops_of_row r) ≤ count
    → in_range count (row_after n r) ≡ true
row_in_range count n r h = grind (arith, length-append, lt-ltb)

in_range_from : (count n : ℕ) (rs : List (Op × Op)) → n + length (ops_in rs) ≤ count → AreInRange count (numbered n rs)
in_range_from count n [] h c below = absurd (omega arith)
in_range_from count n (r ∷ rs) h zero below =
    row_in_range count n r (omega (arith, length-append (ops_of_row r) (ops_in rs)))
in_range_from count n (r ∷ rs) h (suc c) below =
    grind (
      arith,
      length-append,
      in_range_from count (n + length (ops_of_row r)) rs (omega (arith, length-append (ops_of_row r) (ops_in rs))) c (omega arith),
    )

-- each number is an operation's
pub numbered_in_range : (rs : List (Op × Op)) → AreInRange (length (ops_in rs)) (numbered 0 rs)
numbered_in_range rs = in_range_from (length (ops_in rs)) 0 rs (omega arith)
