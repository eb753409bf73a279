-- What explains the rows that are proposed for a block.
use Rattle.std.specs.Prelude.{ℕ, ◌≡◌, ◌⊎◌, Bool, true, false, None, List, ◌++◌, codes}
use Rattle.iloc_ops.specs.declared.op.Op.{Op}
use Rattle.iloc_timed.specs.declared.latencies.Latencies.{Latencies}
use Rattle.iloc_timed.specs.declared.row.Row.{Row}
use Rattle.iloc_timed.specs.Cycles.{cycles}
use Rattle.iloc_timed.specs.Rows.{IsTable}
use Rattle.iloc_timed.specs.Schedule.{Table}
use Rattle.iloc_rows.specs.declared.proposal.Proposed.{Proposed}
use Rattle.iloc_rules.specs.declared.heuristic.Heuristic.{Heuristic}
use Rattle.iloc_rules.specs.declared.memory_rule.MemoryRule.TheVariants.{Book}
use Rattle.iloc_rules.specs.Heuristics.{priorities_by}
use Rattle.iloc_rules.specs.Least.{least}
use Rattle.iloc_rules.specs.Renaming.{without_nops}
use Rattle.iloc_validation.specs.ByTheBook.{IsByTheBook, IssueTheSame}
use Rattle.iloc_validation.specs.OwnRows.{AreOwnRows}
use Rattle.iloc_explain.specs.Listing.{IsExplanation}
use Rattle.iloc_facts.specs.Counts.{AreItsOperations}
use Rattle.iloc_facts.specs.declared.fact.Reasons.{Reasons}
use Rattle.iloc_facts.specs.Reasons.{AreReasons}
use Rattle.iloc_row_commands.specs.declared.explain.explained.ExplainedRows.{ExplainedRows}
use Rattle.iloc_row_commands.specs.Explain.Departure.{departure, departure_line}
use Rattle.iloc_verdict.specs.Entry.Reasons.{reasons_told}
use Rattle.iloc_judge.specs.Obstacle.{IsObstacleLine, IsReadable}

-- Rows by the book are explained by the block's own operations in their slots, beside which the lines show what is issued; then
-- comes the first row that leaves the greedy choice, if one does.
pub record AreExplainedBy (heuristic : Heuristic) (lat : Latencies) (block ops : List Op) (rows : List Row) (text : List ℕ)
    : Type 0 where
  pub own : Table
  pub issued : List Op
  pub are_own : AreOwnRows lat block ops rows own issued
  pub explanation : List ℕ
  pub explains : IsExplanation (priorities_by heuristic lat own.ops) Book lat (least lat block) block own.ops own.rows issued
      explanation
  pub listed : text
      ≡ explanation ++ departure_line issued (departure (priorities_by heuristic lat own.ops) lat own.ops own.rows)

-- `  not lawful`, and below it why
abbrev pub not_lawful : List ℕ → List ℕ
not_lawful why = codes "  not lawful\n" ++ why

-- this is said of a schedule that isn't by the book: facts that hold
pub record AreUnlawful (lat : Latencies) (block ops : List Op) (rows : List Row) (text : List ℕ) : Type 0 where
  pub reasons : Reasons
  pub table : IsTable ops rows
  pub refuted : IsByTheBook lat block ops rows → ⊥
  pub hold : AreReasons lat (without_nops block) ops rows reasons
  pub listed : text ≡ not_lawful (reasons_told reasons)

-- this is said of one of which neither is decided; nothing is left out or added
pub record AreUndecided (block ops : List Op) (rows : List Row) (text : List ℕ) : Type 0 where
  pub table : IsTable ops rows
  pub kept : AreItsOperations (without_nops block) ops
  pub listed : text ≡ codes "  undecided\n"

-- what is said of a schedule: by the book, or not known to be
abbrev pub IsSaidOf : Bool → Heuristic → Latencies → List Op → List Op → List Row → List ℕ → Type 0
IsSaidOf true heuristic lat block ops rows text = AreExplainedBy heuristic lat block ops rows text
IsSaidOf false heuristic lat block ops rows text = AreUnlawful lat block ops rows text ⊎ AreUndecided block ops rows text

-- this is said of a proposal that is no schedule
pub record IsNoSchedule (proposal : Proposed) (text : List ℕ) : Type 0 where
  pub line : List ℕ
  pub is_told : IsObstacleLine proposal line
  pub listed : text ≡ not_lawful line

-- what is said of a proposal: of the schedule that it is, or that it is none
abbrev pub IsSaidOfAll : Bool → Heuristic → Latencies → List Op → Proposed → List ℕ → Type 0
IsSaidOfAll is_lawful heuristic lat block proposal text =
    (IsReadable proposal × IsSaidOf is_lawful heuristic lat block proposal.ops proposal.rows text)
    ⊎ ((is_lawful ≡ false) × IsNoSchedule proposal text)

-- Of what is proposed for a block this is found, and this text said. Rows that issue what our schedule issues are lawful, if all
-- of them can be read.
pub record IsRowsExplanation (heuristic : Heuristic) (lat : Latencies) (block : List Op) (ours : Table) (proposal : Proposed)
    (found : ExplainedRows) (text : List ℕ) : Type 0 where
  pub said : IsSaidOfAll found.is_lawful heuristic lat block proposal text
  pub own : proposal.unread ≡ None → IssueTheSame ours.ops ours.rows proposal.ops proposal.rows → found.is_lawful ≡ true
  pub counted : found.cycles ≡ cycles lat proposal.ops proposal.rows
