-- `trace --task` lists what the rows that others proposed for a file's blocks do on the timed machine.
use Rattle.std.specs.Prelude.{ℕ, ℤ, ◌≡◌, Bool, true, false, List, [], ◌++◌, codes}
use Rattle.iloc_ops.specs.declared.file.Block.{Block}
use Rattle.iloc_timed.specs.declared.latencies.Latencies.{Latencies}
use Rattle.iloc_rows.specs.declared.proposal.Proposed.{Proposed}
use Rattle.iloc_rows.specs.EitherSlot.{placed}
use Rattle.iloc_args.specs.Flags.{has}
use Rattle.iloc_args.specs.declared.flag.Flag.TheVariants.{EitherSlot}
use Rattle.iloc_args.specs.declared.request.Request.{Request}
use Rattle.iloc_judge.specs.Obstacle.{IsObstacleLine, IsReadable}
use Rattle.iloc_trace.specs.Events.{events}
use Rattle.iloc_trace.specs.Listing.{trace_lines}
use Rattle.iloc_driver.specs.Command.{initial_memory}
use Rattle.iloc_listing.specs.Listing.{block_head}
use Rattle.iloc_driver.specs.Rows.{ListsRows}
use Rattle.iloc_driver.specs.declared.commands.Finding.{Finding}

-- what is listed of a proposal: what it does on `memory`, if it is traced, and else the line of what keeps it from being a schedule
abbrev pub IsTraceOf : (traced : Bool) → Latencies → List ℤ → Proposed → List ℕ → Type 0
IsTraceOf true lat memory proposal text =
    IsReadable proposal × (text ≡ trace_lines (events lat memory proposal.ops proposal.rows))
IsTraceOf false lat memory proposal text = IsObstacleLine proposal text

-- the entry of block k and its proposal: the block's number and its name, and what the rows do, or why they aren't traced
pub record IsRowsTraceEntry (lat : Latencies) (memory : List ℤ) (k : ℕ) (of : Block × Proposed) (entry : List ℕ)
    (traced : Bool) : Type 0 where
  pub text : List ℕ
  pub right : IsTraceOf traced lat memory of.1 text
  pub listed : entry ≡ block_head k of.0.name ++ codes "\n" ++ text

-- The text says of each proposal what it does on this memory. They passed exactly where each was traced.
abbrev pub TracesRows : Latencies → List ℤ → List Block → List Proposed → Finding → List ℕ → Type 0
TracesRows lat memory blocks proposals finding text =
    ListsRows (IsRowsTraceEntry lat memory) [] (λ found. []) (λ traced. traced) blocks proposals finding text

-- the text says, with this finding, what is proposed for blocks does, with leave for either slot if the request gives that
abbrev pub Traces : Request → List Block → List Proposed → Finding → List ℕ → Type 0
Traces request blocks proposals finding text =
    TracesRows request.latencies (initial_memory request) blocks (placed (has request.flags EitherSlot) proposals) finding text
