-- The parts of a line of the ready list, by what is kept.
use Rattle.std.specs.Prelude.{ℕ, ◌-◌, ◌==◌, not, if◌then◌else◌, List, ◌++◌, length, map, take, find, slice_get, Option, Some, None, option_map, codes}
use Rattle.iloc_ops.specs.declared.op.Op.{Op}
use Rattle.iloc_timed.specs.declared.row.Row.{Row}
use Rattle.iloc_timed.specs.Rows.{holds}
use Rattle.iloc_explain.specs.declared.ready_list.ReadyList.{ReadyList}
use Rattle.iloc_explain.specs.declared.ready_list.TheConstants.{MOST_LISTED}
use Rattle.iloc_explain.specs.CycleLines.{more_text, next_text, pairs_text, slot_text, span_text}
use Rattle.iloc_explain.specs.Steps.Queue.{Place, number, shown}

-- what comes next, after its cycle
abbrev pub next_by : ReadyList → Option (ℕ × ℕ)
next_by list = option_map (λ (q : ℕ × Place). (q.0, number q.1)) (slice_get list.coming.keys 0)

-- the cycle of what comes next, else the number of rows
abbrev pub busy_by : ℕ → Option (ℕ × ℕ) → ℕ
busy_by rows None = rows
busy_by rows (Some (c, j)) = c

abbrev pub last_by : ℕ → ℕ → ReadyList → ℕ
last_by cycle rows list = if length list.ready.keys == 0 then busy_by rows (next_by list) - 1 else cycle

-- `cycle C ready J:P,J:P..`
abbrev pub front_by : ℕ → ℕ → ReadyList → List ℕ
front_by cycle rows list =
    codes "cycle " ++ span_text cycle (last_by cycle rows list) ++ codes " ready "
    ++ pairs_text (codes ":") (take MOST_LISTED (map shown list.ready.keys)) ++ more_text (length list.ready.keys - MOST_LISTED)

-- ` takes X ; Y next J held H`
abbrev pub taken_by : List Op → Row → ReadyList → List ℕ
taken_by ops row list =
    codes " takes " ++ slot_text row.zero ++ codes " ; " ++ slot_text row.one ++ codes " next "
    ++ next_text ops row (find (λ j. not (holds row j)) (map number list.ready.keys)) (next_by list)
