-- What kept an operation out of the row before its own.
use Rattle.std.specs.Prelude.{ℕ, ◌-◌, ◌&&◌, not, nat_le, Bool, if◌then◌else◌, List, Option, Some, None}
use Rattle.iloc_ops.specs.declared.op.Op.{Op}
use Rattle.iloc_meaning.specs.Trace.{op_at}
use Rattle.iloc_timed.specs.declared.row.Row.{Row}
use Rattle.iloc_timed.specs.Kinds.{kind}
use Rattle.iloc_timed.specs.Rows.{row_at}
use Rattle.iloc_rules.specs.Greedy.{may_stand_beside}
use Rattle.iloc_explain.specs.declared.holding.Holder.{Holder}
use Rattle.iloc_explain.specs.declared.holding.Holder.TheVariants.{Delays, Operation, Nothing}

-- whether the units don't let operations i and j be issued together
abbrev pub clash : List Op → ℕ → ℕ → Bool
clash ops i j = not (may_stand_beside (kind (op_at ops i)) (kind (op_at ops j)))

-- Which operation keeps operation j out of two slots: the first that it can't stand beside or, where both are taken, that
-- on unit 0.
abbrev pub keeper_of : List Op → ℕ → Option ℕ → Option ℕ → Option ℕ
keeper_of ops j None None = None
keeper_of ops j (Some a) None = if clash ops a j then Some a else None
keeper_of ops j None (Some b) = if clash ops b j then Some b else None
keeper_of ops j (Some a) (Some b) = if clash ops b j && not (clash ops a j) then Some b else Some a

-- which operation keeps operation j out of a row, on either unit, since rows may exchange their slots
abbrev pub keeper : List Op → Row → ℕ → Option ℕ
keeper ops row j = keeper_of ops j row.zero row.one

abbrev pub held_by : Option ℕ → Holder
held_by None = Nothing
held_by (Some i) = Operation i

-- What kept operation j, issued in cycle c and ready in cycle r, out of the row before: its delays where it is issued as
-- soon as it is ready, else an operation of that row, or nothing.
abbrev pub holder : List Op → List Row → ℕ → ℕ → ℕ → Holder
holder ops rows j c r = if nat_le c r then Delays else held_by (keeper ops (row_at rows (c - 1)) j)
