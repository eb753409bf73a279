-- Rows whose numbers are operations', and how often an operation stands in them.
use Rattle.std.proofs.Common.{◌≡◌, ◌<◌, ℕ, ◌+◌, ◌==◌, nat_lt, true, List, ◌++◌, length, get_or, take, Option, IfSome, count_by, option_to_list, arith}
use Rattle.std.proofs.lemmas.Bool.{and_parts, ltb-true, cases_lt}
use Rattle.std.proofs.lemmas.List.{get_or_past}
use Rattle.std.proofs.lemmas.List.Sums.{sum_by-append, sum_by_more, AllPass-from_list_all}
use Rattle.std.proofs.lemmas.List.Elements.{All-contains}
use Rattle.std.specs.List.{list_all}
use Rattle.iloc_ops.specs.declared.op.Op.{Op}
use Rattle.iloc_timed.specs.declared.row.Row.{Row}
use Rattle.iloc_timed.specs.Rows.{row_at, times_issued, keeps_units, AreNumbered, IsTable}
use Rattle.iloc_timed.specs.Schedule.{in_range, AreSound, AreInRange, AreOnce}

each_slot : (n : ℕ) (one zero : Option ℕ) → list_all (λ j. nat_lt j n) (option_to_list one ++ option_to_list zero)
    ≡ true → IfSome one (λ i. i < n) × IfSome zero (λ i. i < n)
each_slot n one zero all = grind (arith, ltb-true, and_parts)

-- each slot of a row, by unit
pub in_range_one : (count : ℕ) (row : Row) → in_range count row ≡ true → IfSome row.one (λ i. i < count)
in_range_one count row all = (each_slot count row.one row.zero all).0

pub in_range_zero : (count : ℕ) (row : Row) → in_range count row ≡ true → IfSome row.zero (λ i. i < count)
in_range_zero count row all = (each_slot count row.one row.zero all).1

-- sound rows have operations' numbers
pub sound_rows_in_range : (ops : List Op) (rows : List Row) → AreSound ops rows → AreInRange (length ops) rows
sound_rows_in_range ops rows sound c within = (and_parts _ (keeps_units ops (row_at rows c)) (sound c within)).0

-- rows whose numbers are operations', and in which each operation stands once, are numbered
pub numbered_from : (ops : List Op) (rows : List Row) → AreInRange (length ops) rows → AreOnce (length ops) rows
    → AreNumbered ops rows
numbered_from ops rows known once = grind (arith, cases_lt, ltb-true, All-contains, AllPass-from_list_all, get_or_past)

-- one more row
pub times_more : (rows : List Row) (c i : ℕ) (d : Row) → c < length rows → times_issued (take (c + 1) rows) i
    ≡ times_issued (take c rows) i + (count_by (λ j. i == j) (option_to_list (get_or rows c d).zero)
    + count_by (λ j. i == j) (option_to_list (get_or rows c d).one))
times_more rows c i d within = grind (arith, sum_by_more, sum_by-append)

-- sound rows in which each operation stands once are a table
pub table_from : (ops : List Op) (rows : List Row) → AreSound ops rows → AreOnce (length ops) rows → IsTable ops rows
table_from ops rows sound once = grind (arith, numbered_from, sound_rows_in_range, cases_lt, and_parts, get_or_past)
