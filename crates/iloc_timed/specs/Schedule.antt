-- What a schedule is, and why operations and rows make none.
use Rattle.std.specs.Prelude.{ℕ, ◌≡◌, ◌≢◌, ◌<◌, ◌&&◌, nat_lt, Bool, List, length, IsTrue, IsFalse}
use Rattle.std.specs.List.{list_all}
use Rattle.iloc_ops.specs.declared.op.Op.{Op}
use Rattle.iloc_timed.specs.declared.row.Row.{Row}
use Rattle.iloc_timed.specs.declared.build_fault.BuildFault.{BuildFault}
use Rattle.iloc_timed.specs.declared.build_fault.BuildFault.TheVariants.{BadRow, NotOnce, NoMemory}
use Rattle.iloc_timed.specs.Rows.{row_at, slots, times_issued, keeps_units}

-- operations, and the rows in which they are issued
pub record Table : Type 0 where
  pub ops : List Op
  pub rows : List Row

-- whether each number in the row is below `count`, so of an operation
abbrev pub in_range : ℕ → Row → Bool
in_range count row = list_all (λ i. nat_lt i count) (slots row)

-- whether each number in the row is an operation's and the row keeps the rules of the units
abbrev pub is_sound : List Op → Row → Bool
is_sound ops row = in_range (length ops) row && keeps_units ops row

-- each row is sound
abbrev pub AreSound : List Op → List Row → Type 0
AreSound ops rows = (c : ℕ) → c < length rows → IsTrue (is_sound ops (row_at rows c))

-- in each row the numbers are below `count`
abbrev pub AreInRange : ℕ → List Row → Type 0
AreInRange count rows = (c : ℕ) → c < length rows → IsTrue (in_range count (row_at rows c))

-- row c is the first that isn't sound
pub record IsFirstBadRow (ops : List Op) (rows : List Row) (c : ℕ) : Type 0 where
  pub within : c < length rows
  pub bad : IsFalse (is_sound ops (row_at rows c))
  pub others : (b : ℕ) → b < c → IsTrue (is_sound ops (row_at rows b))

-- each of `count` operations is in exactly one slot
abbrev pub AreOnce : ℕ → List Row → Type 0
AreOnce count rows = (i : ℕ) → i < count → times_issued rows i ≡ 1

-- operation `i` is the first of `count` operations that isn't in exactly one slot
pub record IsFirstNotOnce (count : ℕ) (rows : List Row) (i : ℕ) : Type 0 where
  pub within : i < count
  pub bad : times_issued rows i ≢ 1
  pub others : AreOnce i rows

-- the fault says why `ops` and `rows` make no schedule; memory can be lacking for any
abbrev pub IsReason : List Op → List Row → BuildFault → Type 0
IsReason ops rows (BadRow c) = IsFirstBadRow ops rows c
IsReason ops rows (NotOnce i) = AreSound ops rows × IsFirstNotOnce (length ops) rows i
IsReason ops rows NoMemory = Unit
