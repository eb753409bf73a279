-- Where the operations of a table are issued.
use Rattle.std.proofs.Common.{◌≡◌, ◌<◌, ◌≤◌, ℕ, zero, suc, ◌+◌, ◌==◌, ◌||◌, true, false, List, [], ◌∷◌, ◌++◌, length, count_by, arith, refl, ap, ◌∙◌, add-one, Option, Some, None, option_to_list, eq-eqb}
use Rattle.std.proofs.lemmas.Bool.{or_left, or_right}
use Rattle.std.specs.List.{list_any}
use Rattle.std.proofs.lemmas.List.Sums.{sum_by-cons, get_or-le-sum_by}
use Rattle.iloc_meaning.proofs.Cases.{by_bool}
use Rattle.iloc_timed.specs.declared.row.Row.{Row}
use Rattle.iloc_timed.specs.Rows.{row_at, slots, holds, issue_cycle, times_issued}
use Rattle.iloc_timed.proofs.Counts.{count_by_some, count_by_none}

-- an operation that stands in a slot of some row stands at least once
pub stands_once : (rows : List Row) (c i : ℕ) → c < length rows → holds (row_at rows c) i ≡ true
    → 1 ≤ times_issued rows i
stands_once rows c i within there = grind (arith, count_by_some, get_or-le-sum_by)

times-cons : (row : Row) (rows : List Row) (i : ℕ) → times_issued (row ∷ rows) i ≡ count_by (λ j. i == j) (slots row)
    + times_issued rows i
times-cons row rows i = sum_by-cons (λ r. count_by (λ j. i == j) (slots r)) row rows

-- the one row that holds an operation is that of its issue
pub issued_there : (rows : List Row) (c i : ℕ) → times_issued rows i ≡ 1 → c < length rows
    → holds (row_at rows c) i ≡ true → issue_cycle rows i ≡ c
issued_there [] c i once within there = absurd (omega arith)
issued_there (row ∷ rows) zero i once within there = rw there refl
issued_there (row ∷ rows) (suc c) i once within there =
    let less : c < length rows = omega arith in
    let later : 1 ≤ times_issued rows i = stands_once rows c i less there in
    let both : times_issued (row ∷ rows) i ≡ count_by (λ j. i == j) (slots row) + times_issued rows i =
    times-cons row rows i in
    by_bool (holds row i)
    (λ t. let here : 1 ≤ count_by (λ j. i == j) (slots row) = count_by_some (λ j. i == j) (slots row) t in
    absurd (omega arith))
    (λ f. let none : count_by (λ j. i == j) (slots row) ≡ 0 = count_by_none (λ j. i == j) (slots row) f in
    let rest : times_issued rows i ≡ 1 = omega arith in
    rw f (ap (λ n. n + 1) (issued_there rows c i rest less there) ∙ add-one c))

-- an operation that stands somewhere is issued in a row, which holds it
pub stands_there : (rows : List Row) (i : ℕ) → 1 ≤ times_issued rows i → (issue_cycle rows i < length rows)
    × (holds (row_at rows (issue_cycle rows i)) i ≡ true)
stands_there [] i some = absurd (omega arith)
stands_there (row ∷ rows) i some = grind (arith, times-cons, by_bool, count_by_none, add-one, stands_there rows i)

any_last : (one : Option ℕ) (i : ℕ) → list_any (λ j. i == j) (option_to_list one ++ option_to_list (Some i)) ≡ true
any_last None i = or_left (i == i) false (eq-eqb i i refl)
any_last (Some o) i = or_right (i == o) ((i == i) || false) (or_left (i == i) false (eq-eqb i i refl))

any_first : (zero : Option ℕ) (i : ℕ) → list_any (λ j. i == j) (option_to_list (Some i) ++ option_to_list zero) ≡ true
any_first other i = or_left (i == i) _ (eq-eqb i i refl)

pub holds_zero : (row : Row) (i : ℕ) → row.zero ≡ Some i → holds row i ≡ true
holds_zero row i is = rw is (any_last row.one i)

pub holds_one : (row : Row) (i : ℕ) → row.one ≡ Some i → holds row i ≡ true
holds_one row i is = rw is (any_first row.zero i)
