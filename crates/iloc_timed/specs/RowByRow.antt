-- A schedule that runs row by row.
use Rattle.std.specs.Prelude.{List, length}
use Rattle.iloc_ops.specs.declared.op.Op.{Op}
use Rattle.iloc_timed.specs.declared.latencies.Latencies.{Latencies}
use Rattle.iloc_timed.specs.declared.machine.Machine.{Machine}
use Rattle.iloc_timed.specs.declared.row.Row.{Row}
use Rattle.iloc_timed.specs.Timed.{issued_before}
use Rattle.iloc_timed.specs.Steps.Machine.{After}

-- `rows` have run on `machine` from the start, all of them or up to a fault: it follows the log of what they issued
abbrev pub HasRun : Latencies → List Op → List Row → Machine → Type 0
HasRun lat ops rows machine =
    After machine.state.finished machine.state.memory.first (length rows)
    (issued_before lat machine.state.memory.first ops rows (length rows)) machine
