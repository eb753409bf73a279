-- What holds of rows that don't leave the greedy choice.
use Rattle.std.specs.Prelude.{ℕ, ◌≡◌, List, None}
use Rattle.iloc_ops.specs.declared.op.Op.{Op}
use Rattle.iloc_timed.specs.declared.latencies.Latencies.{Latencies}
use Rattle.iloc_timed.specs.declared.row.Row.{Row}
use Rattle.iloc_timed.specs.Cycles.{cycles}
use Rattle.iloc_rules.specs.Greedy.{IsGreedyBy}
use Rattle.iloc_rules.specs.Lawful.{IsLawful}
use Rattle.iloc_row_commands.specs.Explain.Departure.{departure}

-- a lawful schedule of which no row leaves the choice takes as many cycles as the greedy one
abbrev pub RowsByTheChoiceTakeOurCycles : Type 0
RowsByTheChoiceTakeOurCycles = (prios : List ℕ) (lat : Latencies) (block ops : List Op) (rows ours : List Row)
    → IsLawful lat block ops rows → IsGreedyBy prios lat block ops ours → departure prios lat ops rows ≡ None
    → cycles lat ops rows ≡ cycles lat ops ours
