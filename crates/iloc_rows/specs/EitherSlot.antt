-- Rows whose operations may be in either slot.
use Rattle.std.specs.Prelude.{ℕ, ◌<◌, ◌&&◌, not, Bool, if◌then◌else◌, List, length, map, IsFalse, IsTrue}
use Rattle.iloc_ops.specs.declared.op.Op.{Op}
use Rattle.iloc_timed.specs.declared.row.Row.{Row}
use Rattle.iloc_timed.specs.Rows.{keeps_units, row_at}
use Rattle.iloc_rows.specs.declared.proposal.Proposed.{Proposed}

-- each row keeps the rules of the units
abbrev pub AllKeepUnits : List Op → List Row → Type 0
AllKeepUnits ops rows = (c : ℕ) → c < length rows → IsTrue (keeps_units ops (row_at rows c))

-- row c is the first that doesn't
pub record IsFirstThatBreaks (ops : List Op) (rows : List Row) (c : ℕ) : Type 0 where
  pub within : c < length rows
  pub bad : IsFalse (keeps_units ops (row_at rows c))
  pub others : (b : ℕ) → b < c → IsTrue (keeps_units ops (row_at rows b))

-- each operation in the slot of the other
abbrev pub exchanged : Row → Row
exchanged row = record { zero = row.one; one = row.zero }

-- a row that breaks the rules of the units as it is written, and keeps them exchanged, is exchanged
abbrev pub in_either_slot : List Op → Row → Row
in_either_slot ops row = if not (keeps_units ops row) && keeps_units ops (exchanged row) then exchanged row else row

-- the proposal with each row as either slot allows it
abbrev pub with_either_slot : Proposed → Proposed
with_either_slot p = record p { rows = map (in_either_slot p.ops) p.rows }

-- the proposals with leave for either slot, or as they are written
abbrev pub placed : Bool → List Proposed → List Proposed
placed either_slot proposals = if either_slot then map with_either_slot proposals else proposals
