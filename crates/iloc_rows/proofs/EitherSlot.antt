-- Exchanging the operations of rows keeps the limits.
use Rattle.iloc_rows.proofs.Common.{◌≡◌, ℕ, zero, suc, Bool, true, ◌&&◌, List, [], ◌∷◌, map, length, ◌==◌, count_by, Option, MatchOption, option_to_list, refl, ◌∙◌, arith, and_from, and_right, length-map, AllByRecursion, Op, Row, AllKeepUnits, IsFirstThatBreaks, exchanged, in_either_slot, with_either_slot, PlacedRowsAreWithinLimits, IsNumbered, Proposed}
use Rattle.std.proofs.lemmas.List.Folds.{list_all-append}
use Rattle.std.proofs.lemmas.List.Sums.{sum_by-cons}
use Rattle.iloc_timed.specs.Rows.{slots, times_issued, IsTable}
use Rattle.iloc_timed.specs.Schedule.{AreOnce, AreInRange, IsFirstBadRow, in_range}
use Rattle.iloc_timed.proofs.Standing.{table_from}
use Rattle.iloc_rows.proofs.Slots.{two_slots}

-- One row

abbrev times_in_row : ℕ → Row → ℕ
times_in_row i row = count_by (λ j. i == j) (slots row)

exchanged_times : (i : ℕ) (row : Row) → times_in_row i (exchanged row) ≡ times_in_row i row
exchanged_times i row = omega (arith, two_slots i row.one row.zero, two_slots i row.zero row.one)

either_times : (i : ℕ) (ops : List Op) (row : Row) → times_in_row i (in_either_slot ops row) ≡ times_in_row i row
either_times i ops row = grind (arith, exchanged_times)

and_swap : (a b : Bool) → (a && b) ≡ (b && a)
and_swap true true = refl
and_swap _ true = refl
and_swap _ _ = refl

exchanged_in_range : (count : ℕ) (row : Row) → in_range count (exchanged row) ≡ in_range count row
exchanged_in_range count row = grind (arith, and_swap, list_all-append, option_to_list)

either_in_range : (count : ℕ) (ops : List Op) (row : Row) → in_range count (in_either_slot ops row) ≡ in_range count row
either_in_range count ops row = grind (arith, exchanged_in_range)

-- All rows

either_issued : (i : ℕ) (ops : List Op) (rows : List Row)
    → times_issued (map (in_either_slot ops) rows) i ≡ times_issued rows i
either_issued i ops [] = refl
either_issued i ops (row ∷ rows) = omega (
  arith,
  sum_by-cons (times_in_row i) (in_either_slot ops row) (map (in_either_slot ops) rows),
  sum_by-cons (times_in_row i) row rows,
  either_times i ops row,
  either_issued i ops rows,
)

pub either_once : (p : Proposed) → AreOnce (length p.ops) p.rows
    → AreOnce (length (with_either_slot p).ops) (with_either_slot p).rows
either_once p once i below = either_issued i p.ops p.rows ∙ once i below

pub rows_in_range : (count : ℕ) (ops : List Op) (rows : List Row) → AreInRange count rows
    → AreInRange count (map (in_either_slot ops) rows)
rows_in_range count ops [] h c below = absurd (omega arith)
rows_in_range count ops (row ∷ rows) h zero below = either_in_range count ops row ∙ h 0 (omega arith)
rows_in_range count ops (row ∷ rows) h (suc c) below =
    rows_in_range count ops rows (λ k under. h (suc k) (omega arith)) c (omega arith)

-- Proposals

all-map : (P Q : Proposed → Type 0) (ps : List Proposed) → ((p : Proposed) → P p → Q (with_either_slot p))
    → AllByRecursion P ps → AllByRecursion Q (map with_either_slot ps)
all-map P Q [] step h = tt
all-map P Q (p ∷ ps) step h = (step p h.0, all-map P Q ps step h.1)

pub placed_within : PlacedRowsAreWithinLimits
placed_within = grind (arith, all-map, either_once, length-map, rows_in_range)

-- The first row that breaks the rules of the units

-- rows whose numbers are operations' are a table unless one breaks the rules of the units
pub bad_row_of : (p : Proposed) (found : Option ℕ) → IsNumbered p
    → MatchOption found (AllKeepUnits p.ops p.rows) (IsFirstThatBreaks p.ops p.rows)
    → MatchOption found (IsTable p.ops p.rows) (IsFirstBadRow p.ops p.rows)
bad_row_of p found numbered keep = grind (arith, and_from, and_right, table_from)
