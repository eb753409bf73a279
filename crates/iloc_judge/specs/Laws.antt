-- What holds of all that is found of rows.
use Rattle.std.specs.Prelude.{ℕ, ℤ, ◌≡◌, true, false, List}
use Rattle.iloc_ops.specs.declared.op.Op.{Op}
use Rattle.iloc_timed.specs.declared.latencies.Latencies.{Latencies}
use Rattle.iloc_timed.specs.Schedule.{Table}
use Rattle.iloc_rows.specs.declared.proposal.Proposed.{Proposed}
use Rattle.iloc_verdict.specs.declared.checked.Checked.{Checked}
use Rattle.iloc_comparison.specs.declared.task.CheckOptions.{CheckOptions}
use Rattle.iloc_judge.specs.Checked.{IsCheck, DoTheSame, MayPass}
use Rattle.iloc_verdict.specs.Checked.{passes}

-- rows that are found to be the same do what the block does
abbrev pub SameRowsDoTheSame : Type 0
SameRowsDoTheSame = (options : CheckOptions) (lat : Latencies) (memory : List ℤ) (block : List Op) (ours : Table)
    (proposal : Proposed) (checked : Checked) (entry : List ℕ) → IsCheck options lat memory block ours proposal checked entry
    → passes false checked ≡ true → DoTheSame options.outputs_alone lat block proposal.ops proposal.rows

-- rows pass only if they may
abbrev pub PassedRowsMayPass : Type 0
PassedRowsMayPass = (options : CheckOptions) (lat : Latencies) (memory : List ℤ) (block : List Op) (ours : Table)
    (proposal : Proposed) (checked : Checked) (entry : List ℕ) → IsCheck options lat memory block ours proposal checked entry
    → passes options.lawful checked ≡ true → MayPass options lat memory block proposal.ops proposal.rows
