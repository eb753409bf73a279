-- The listing of what explains the rows that others proposed for a file's blocks.
use Rattle.std.specs.Prelude.{ℕ, ◌≡◌, List, [], ◌++◌, sum_by, codes}
use Rattle.iloc_ops.specs.declared.file.Block.{Block}
use Rattle.iloc_timed.specs.declared.latencies.Latencies.{Latencies}
use Rattle.iloc_timed.specs.Schedule.{Table}
use Rattle.iloc_rows.specs.declared.proposal.Proposed.{Proposed}
use Rattle.iloc_rules.specs.declared.heuristic.Heuristic.{Heuristic}
use Rattle.iloc_row_commands.specs.declared.explain.explained.ExplainedRows.{ExplainedRows}
use Rattle.iloc_row_commands.specs.Explain.Explained.{IsRowsExplanation}
use Rattle.iloc_listing.specs.Listing.{block_head, total_of}
use Rattle.iloc_driver.specs.Rows.{ListsRows}
use Rattle.iloc_listing.specs.Schedules.{IsTheGreedy}
use Rattle.iloc_driver.specs.declared.commands.Finding.{Finding}
use Rattle.iloc_args.specs.Flags.{has}
use Rattle.iloc_args.specs.declared.flag.Flag.TheVariants.{EitherSlot}
use Rattle.iloc_args.specs.declared.request.Request.{Request}
use Rattle.iloc_rows.specs.EitherSlot.{placed}
pub mod Departure
pub mod Explained

-- The entry of block k and its proposal: the block's number and its name, and what explains the proposal, beside the block's
-- greedy schedule.
pub record IsRowsEntry (heuristic : Heuristic) (lat : Latencies) (k : ℕ) (of : Block × Proposed) (entry : List ℕ)
    (found : ExplainedRows) : Type 0 where
  pub ours : Table
  pub greedy : IsTheGreedy heuristic lat of.0 ours
  pub text : List ℕ
  pub right : IsRowsExplanation heuristic lat of.0.ops ours of.1 found text
  pub listed : entry ≡ block_head k of.0.name ++ codes "\n" ++ text

-- the cycles of all proposals together
abbrev pub rows_total : List ExplainedRows → List ℕ
rows_total found = total_of (sum_by (λ f. f.cycles) found)

-- The text says of each proposal what is right, and at the end how many cycles all take. They passed exactly where each is known to
-- be by the book.
abbrev pub ExplainsRows : Heuristic → Latencies → List Block → List Proposed → Finding → List ℕ → Type 0
ExplainsRows heuristic lat blocks proposals finding text =
    ListsRows (IsRowsEntry heuristic lat) [] rows_total (λ f. f.is_lawful) blocks proposals finding text

-- the text explains, with this finding, what is proposed for blocks, with leave for either slot if the request gives that
abbrev pub Explains : Request → List Block → List Proposed → Finding → List ℕ → Type 0
Explains request blocks proposals finding text =
    ExplainsRows request.priority request.latencies blocks (placed (has request.flags EitherSlot) proposals) finding text
