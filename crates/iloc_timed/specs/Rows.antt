-- The rows of a schedule: by cycle, the numbers of the operations that are issued on the two units.
use Rattle.std.specs.Prelude.{ℕ, ◌+◌, ◌≡◌, ◌<◌, ◌==◌, ◌&&◌, not, Bool, false, if◌then◌else◌, List, [], ◌∷◌, ◌++◌, length, slice_index_or, sum_by, count_by, Option, Some, None, option_map, option_to_list, Contains, IsTrue}
use Rattle.std.specs.List.{list_any}
use Rattle.iloc_ops.specs.declared.op.Op.{Op}
use Rattle.iloc_meaning.specs.Trace.{op_at}
use Rattle.iloc_timed.specs.declared.kind.Kind.{Kind}
use Rattle.iloc_timed.specs.declared.row.Row.{Row}
use Rattle.iloc_timed.specs.Kinds.{kind}
use Rattle.iloc_timed.specs.Units.{needs_zero, needs_one, stands_alone}

-- a row in which nothing is issued
abbrev pub empty_row : Row
empty_row = record { zero = None; one = None }

-- the row of cycle c, an empty one after the last
abbrev pub row_at : List Row → ℕ → Row
row_at rows c = slice_index_or rows c empty_row

-- the operations of a row, unit 1 first
abbrev pub slots : Row → List ℕ
slots row = option_to_list row.one ++ option_to_list row.zero

-- whether operation i is in the row
abbrev pub holds : Row → ℕ → Bool
holds row i = list_any (λ j. i == j) (slots row)

-- the cycle at which operation i is issued: the first whose row holds it; where none does, the number of rows
abbrev pub issue_cycle : List Row → ℕ → ℕ
issue_cycle [] i = 0
issue_cycle (row ∷ rows) i = if holds row i then 0 else issue_cycle rows i + 1

-- in how many slots operation i is
abbrev pub times_issued : List Row → ℕ → ℕ
times_issued rows i = sum_by (λ row. count_by (λ j. i == j) (slots row)) rows

-- the kind of the operation in a slot
abbrev pub kind_in : List Op → Option ℕ → Option Kind
kind_in ops slot = option_map (λ i. kind (op_at ops i)) slot

-- whether a test holds of what is in a slot; it doesn't hold of an empty one
abbrev pub is_some_kind : (Kind → Bool) → Option Kind → Bool
is_some_kind test None = false
is_some_kind test (Some k) = test k

-- neither unit has what needs the other one, and what has to be alone is there once
abbrev pub keeps_units : List Op → Row → Bool
keeps_units ops row =
    not (is_some_kind needs_one (kind_in ops row.zero))
    && not (is_some_kind needs_zero (kind_in ops row.one))
    && not (is_some_kind stands_alone (kind_in ops row.zero) && is_some_kind stands_alone (kind_in ops row.one))

-- each number in a row is an operation's, and each operation is in exactly one slot
pub record AreNumbered (ops : List Op) (rows : List Row) : Type 0 where
  pub in_range : (c i : ℕ) → Contains (slots (row_at rows c)) i → i < length ops
  pub once : (i : ℕ) → i < length ops → times_issued rows i ≡ 1

-- What any schedule keeps: each number in a row is an operation's, each operation is in exactly one slot, and
-- each row keeps the rules of the units.
pub record IsTable (ops : List Op) (rows : List Row) : Type 0 where
  pub in_range : (c i : ℕ) → Contains (slots (row_at rows c)) i → i < length ops
  pub once : (i : ℕ) → i < length ops → times_issued rows i ≡ 1
  pub units : (c : ℕ) → IsTrue (keeps_units ops (row_at rows c))
