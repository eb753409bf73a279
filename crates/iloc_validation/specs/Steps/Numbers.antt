-- The numbers that operations have in other rows that issue the same.
use Rattle.std.specs.Prelude.{ℕ, ◌≡◌, ◌<◌, ◌==◌, Bool, false, if◌then◌else◌, List, length, slice_index, slice_set, Option, Some, None, unwrap_or}
use Rattle.iloc_timed.specs.declared.row.Row.{Row}
use Rattle.iloc_timed.specs.Rows.{row_at, issue_cycle}

-- whether a number stands in a slot
abbrev pub is_in : Option ℕ → ℕ → Bool
is_in None k = false
is_in (Some j) k = j == k

-- the number that stands in the other row where k stands in this one
abbrev pub in_slot : Row → Row → ℕ → ℕ
in_slot other row k = if is_in row.zero k then unwrap_or other.zero 0 else unwrap_or other.one 0

-- the number of the operation that `others` issue where `rows` issue operation `k`
abbrev pub number_in : List Row → List Row → ℕ → ℕ
number_in others rows k = in_slot (row_at others (issue_cycle rows k)) (row_at rows (issue_cycle rows k)) k

-- the list with a number at the place of what stands in a slot
abbrev pub with_number : List ℕ → Option ℕ → ℕ → List ℕ
with_number numbers None number = numbers
with_number numbers (Some k) number = slice_set numbers k number

-- of `count` operations, each that `rows` hold before cycle `c` has its `value` in `noted`
pub record AreNotedBefore (count : ℕ) (value : ℕ → ℕ) (rows : List Row) (c : ℕ) (noted : List ℕ) : Type 0 where
  pub size : length noted ≡ count
  pub each : (k : ℕ) → k < count → issue_cycle rows k < c → slice_index noted k ≡ value k

-- of each the number that it has in the others
abbrev pub AreNumbersIn : ℕ → List Row → List Row → ℕ → List ℕ → Type 0
AreNumbersIn count others rows c numbers = AreNotedBefore count (number_in others rows) rows c numbers
