-- A task that is read from a text of its own, and apart from it the rows that somebody hands in.
use Rattle.std.specs.Prelude.{ℕ, List, Option}
use Rattle.iloc_ops.specs.declared.file.Block.{Block}
use Rattle.iloc_rows.specs.declared.fault.RowsFault.{RowsFault}
use Rattle.iloc_rows.specs.declared.proposal.Proposed.{Proposed}
use Rattle.iloc_rows.specs.Submissions.{AreRefusedFor, DenoteApart, IsNoTask, IsTask}
use Rattle.iloc_text.specs.Streams.{ReadsText}
use Rattle.iloc_driver.specs.declared.fault.TaskFault.{TaskFault}
use Rattle.iloc_driver.specs.declared.fault.TaskFault.TheVariants as of_task

-- what is known of the bytes that texts hold, by their names
abbrev pub Held : Type 0
Held = List ℕ → Option (List ℕ)

-- a text was read from its first byte of which `known` says what is known, and its bytes are `input`
pub record Holds (known : Option (List ℕ)) (input : List ℕ) : Type 0 where
  pub left : Option (List ℕ)
  pub read : ReadsText known left input

-- it denotes the blocks of a task
pub record ReadsTask (known : Option (List ℕ)) (blocks : List Block) : Type 0 where
  pub input : List ℕ
  pub held : Holds known input
  pub task : IsTask input blocks

-- The task that was read from one text denotes `blocks`, and the rows that were read from another denote `proposals`
-- for them.
pub record ReadsApart (known old new : Option (List ℕ)) (blocks : List Block) (proposals : List Proposed)
    : Type 0 where
  pub task : List ℕ
  pub held : Holds known task
  pub rows : List ℕ
  pub read : ReadsText old new rows
  pub denoted : DenoteApart task rows blocks proposals

-- Faults

-- the task that was read is none, for this fault
pub record IsRefusedAsTask (known : Option (List ℕ)) (fault : RowsFault) : Type 0 where
  pub input : List ℕ
  pub held : Holds known input
  pub refused : IsNoTask input fault

-- the rows that were read are refused for the blocks of the task, for this fault
pub record AreRefusedApart (known old new : Option (List ℕ)) (fault : RowsFault) : Type 0 where
  pub blocks : List Block
  pub task : ReadsTask known blocks
  pub rows : List ℕ
  pub read : ReadsText old new rows
  pub refused : AreRefusedFor blocks rows fault

-- why there is no task: its text was not opened or not read, or it is refused
abbrev pub HasNoTask : Option (List ℕ) → TaskFault → Type 0
HasNoTask known (of_task.Unread fault) = Unit {0}
HasNoTask known (of_task.Text fault) = IsRefusedAsTask known fault
