-- What a check tells that passes.
use Rattle.std.specs.Prelude.{ℕ, List, Option}
use Rattle.std.specs.List.{AllZip}
use Rattle.iloc_ops.specs.declared.file.Block.{Block}
use Rattle.iloc_timed.specs.declared.latencies.Latencies.{Latencies}
use Rattle.iloc_rows.specs.EitherSlot.{placed}
use Rattle.iloc_rows.specs.declared.proposal.Proposed.{Proposed}
use Rattle.iloc_judge.specs.Checked.{DoTheSame, MayPass}
use Rattle.iloc_args.specs.Asked.{Asked}
use Rattle.iloc_args.specs.declared.flag.Flag.TheVariants.{EitherSlot, Outputs}
use Rattle.iloc_driver.specs.Run.Apart.{Held}
use Rattle.iloc_row_commands.specs.Check.{options_by}
use Rattle.iloc_farm.specs.Reads.{ReadsRows}
use Rattle.iloc_farm.specs.Theorem.Options.{AreLatencies, memory_asked}

-- Blocks were read, and rows that are proposed for them. With the latencies that are asked for, and in either slot if that is
-- asked for, the rows for each block keep the rules of the units and have its outcome on every memory or, where it is asked to
-- compare outputs alone, show what it shows. They are by the book; or, where that isn't asked for, the block finishes on the
-- memory that is, and has a store or an output, or an output where outputs alone are compared. Where it is asked for, they have
-- the block's operations.
pub record ReadsTheSame (held : Held) (asked : Asked) (old new : Option (List ℕ)) : Type 0 where
  pub blocks : List Block
  pub proposals : List Proposed
  pub read : ReadsRows held asked.task_file old new blocks proposals
  pub latencies : Latencies
  pub are_asked : AreLatencies asked latencies
  pub same : AllZip (λ (b : Block) (p : Proposed). DoTheSame (asked.flags Outputs) latencies b.ops p.ops p.rows) blocks
      (placed (asked.flags EitherSlot) proposals)
  pub told : AllZip (λ (b : Block) (p : Proposed).
      MayPass (options_by asked.flags) latencies (memory_asked asked) b.ops p.ops p.rows) blocks
      (placed (asked.flags EitherSlot) proposals)
