-- What is found of the rows that are proposed for a block.
use Rattle.std.specs.Prelude.{ℕ, ℤ, ◌≡◌, ◌⊎◌, Bool, true, false, List, Option, None}
use Rattle.iloc_ops.specs.declared.op.Op.{Op}
use Rattle.iloc_timed.specs.declared.latencies.Latencies.{Latencies}
use Rattle.iloc_timed.specs.declared.row.Row.{Row}
use Rattle.iloc_timed.specs.Rows.{IsTable}
use Rattle.iloc_timed.specs.Schedule.{Table}
use Rattle.iloc_rows.specs.declared.proposal.Proposed.{Proposed}
use Rattle.iloc_rules.specs.Renaming.{without_nops}
use Rattle.iloc_validation.specs.ByTheBook.{IsByTheBook, IssueTheSame}
use Rattle.iloc_verdict.specs.declared.verdict.Verdict.{Verdict}
use Rattle.iloc_verdict.specs.declared.verdict.Verdict.TheVariants.{Lawful}
use Rattle.iloc_comparison.specs.Comparison.{AgreesOnAll}
use Rattle.iloc_facts.specs.Counts.{AreItsOperations}
use Rattle.iloc_verdict.specs.Kept.{keeps_operations}
use Rattle.iloc_comparison.specs.declared.task.CheckOptions.{CheckOptions}
use Rattle.iloc_comparison.specs.declared.task.Form.TheVariants.{Json}
use Rattle.iloc_judge.specs.Origins.{AreOriginsFor}
use Rattle.iloc_judge.specs.Verdict.{IsVerdict, unread_in}
use Rattle.iloc_comparison.specs.Void.{CanBeJudged}
use Rattle.iloc_verdict.specs.declared.checked.Checked.{Checked}
use Rattle.iloc_verdict.specs.Entry.{entry_as}
use Rattle.iloc_verdict.specs.Checked.{found, kind_of}

-- Of what is proposed for a block this is found, whatever is known of the block's cycles, and this entry listed, as is asked for,
-- by a verdict that is right: where a line can't be read, that the first such can't be. What our schedule by the book issues is
-- lawful, if all of it can be read. JSON has which operation of the block each is.
pub record IsCheck (options : CheckOptions) (lat : Latencies) (memory : List ℤ) (block : List Op) (ours : Table)
    (proposal : Proposed) (checked : Checked) (entry : List ℕ) : Type 0 where
  pub verdict : Verdict
  pub first : proposal.unread ≡ unread_in verdict
  pub right : IsVerdict options.outputs_alone lat block proposal.ops proposal.rows memory verdict
  pub own : proposal.unread ≡ None → IssueTheSame ours.ops ours.rows proposal.ops proposal.rows → verdict ≡ Lawful
  pub origins : List (Option ℕ)
  pub are_origins : options.form ≡ Json → AreOriginsFor lat block proposal.ops proposal.rows verdict origins
  pub is_found : checked
      ≡ found (kind_of options.lawful verdict) (keeps_operations options.operations block proposal) checked.ours checked.sought
      checked.least lat proposal
  pub listed : entry ≡ entry_as options proposal.ops proposal.rows verdict origins checked

-- The operations `ops` in `rows` keep the rules of the units, and on every memory of 16,384 words of 32 bits they have
-- the outcome of `block` or, with `outputs`, show what it shows.
pub record DoTheSame (outputs : Bool) (lat : Latencies) (block ops : List Op) (rows : List Row) : Type 0 where
  pub table : IsTable ops rows
  pub agree : AgreesOnAll outputs lat block ops rows

-- What holds of what passes

-- What rows that pass do: they are by the book; or, where they needn't be, they do the same as the block on every
-- memory, and on the one handed in that says something.
abbrev pub DoEnough : (lawful outputs : Bool) → Latencies → List ℤ → List Op → List Op → List Row → Type 0
DoEnough true outputs lat memory block ops rows = IsByTheBook lat block ops rows
DoEnough false outputs lat memory block ops rows =
    IsByTheBook lat block ops rows ⊎ (DoTheSame outputs lat block ops rows × CanBeJudged outputs block memory)

-- what holds of rows that pass: they do enough, and with the block's own operations where that is asked for
pub record MayPass (options : CheckOptions) (lat : Latencies) (memory : List ℤ) (block ops : List Op) (rows : List Row) : Type 0
  where
    pub enough : DoEnough options.lawful options.outputs_alone lat memory block ops rows
    pub kept : options.operations ≡ true → AreItsOperations (without_nops block) ops
