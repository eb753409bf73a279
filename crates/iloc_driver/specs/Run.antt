-- What a run writes for what it reads.
use Rattle.std.specs.Prelude.{◌≡◌, ℕ, ◌&&◌, Bool, if◌then◌else◌, is_some, List, Option, Some, None}
use Rattle.std.specs.Io.KnownBytes.{Keeps}
use Rattle.std.specs.String.{string_bytes}
use Rattle.std.specs.declared.alloc.Global.{Global}
use Rattle.std.specs.declared.string.String.{String}
use Rattle.iloc_ops.specs.declared.file.Block.{Block}
use Rattle.iloc_text.specs.Streams.{ReadsText}
use Rattle.iloc_rows.specs.declared.proposal.Proposed.{Proposed}
use Rattle.iloc_rows.specs.Submissions as submissions
use Rattle.iloc_args.specs.declared.request.Request.{Request}
use Rattle.iloc_args.specs.declared.request.Task.{Task}
use Rattle.iloc_driver.specs.declared.fault.RunFault.{RunFault}
use Rattle.iloc_driver.specs.declared.fault.RunFault.TheVariants.{WriteFailed}
use Rattle.iloc_driver.specs.declared.commands.Finding.{Finding}
use Rattle.iloc_driver.specs.declared.commands.Finding.TheVariants.{Passed}
use Rattle.iloc_driver.specs.Run.Apart.{Held, ReadsApart}
use Rattle.iloc_driver.specs.Run.Causes.{IsCaused, causes_of}
use Rattle.iloc_driver.specs.Command.{Command, Input, OfFile, OfRows, OfText, is_of_rows}
use Rattle.iloc_driver.specs.Priorities.{AreIn, Own}
use Rattle.iloc_listing.specs.Device.{WritesFront}
use Rattle.iloc_driver.specs.Entries.{ListsRead}
pub mod Apart
pub mod Causes

-- what a command reads: rows, if a file is named that has their blocks
abbrev pub input_of : Command → Option (String Global) → Input
input_of command file = if command.takes_task && is_some file then OfRows else command.input

-- the input denotes blocks and what is proposed for them, and the text is what is said of that, with this finding
pub record ListsSubmission (says : List Block → List Proposed → Finding → List ℕ → Type 0) (input : List ℕ)
    (finding : Finding) (text : List ℕ) : Type 0 where
  pub blocks : List Block
  pub proposals : List Proposed
  pub denoted : submissions.Denotes input blocks proposals
  pub said : says blocks proposals finding text

-- the bytes that were read are an input of which this text is listed, with this finding
pub record Lists (lists : List ℕ → Finding → List ℕ → Type 0) (old new : Option (List ℕ)) (finding : Finding)
    (text : List ℕ) : Type 0 where
  pub input : List ℕ
  pub read : ReadsText old new input
  pub listed : lists input finding text

-- a task was read from a text of which this is known, and rows apart from it, and the text is what is said of them, with
-- this finding
pub record ListsApart (says : List Block → List Proposed → Finding → List ℕ → Type 0) (known old new : Option (List ℕ))
    (finding : Finding) (text : List ℕ) : Type 0 where
  pub blocks : List Block
  pub proposals : List Proposed
  pub read : ReadsApart known old new blocks proposals
  pub said : says blocks proposals finding text

-- The command lists this text of what was read, with this finding: of a file it judges nothing; rows have blocks in the same
-- input, or in the file that is named.
abbrev pub ListsBy : Command → Input → Option (String Global) → Held → Request → Option (List ℕ) → Option (List ℕ)
    → Finding → List ℕ → Type 0
ListsBy command OfFile file held request old new finding text =
    ListsRead (command.lists request) (AreIn request.priorities_file held) old new text × (finding ≡ Passed)
ListsBy command OfRows None held request old new finding text =
    Lists (ListsSubmission (command.says request)) old new finding text
ListsBy command OfRows (Some name) held request old new finding text =
    ListsApart (command.says request) (held (string_bytes name)) old new finding text
ListsBy command OfText file held request old new finding text = Lists command.reports old new finding text

-- where `command_of` has the commands
module _ (command_of : Task → Command) where
  -- `text` is what a request with task `t` lists of `blocks`, with their own priorities `own`
  abbrev pub IsListingFor : Task → Request → Own → List Block → List ℕ → Type 0
  IsListingFor t request own blocks text = (command_of t).lists request own blocks text

  -- the text is what the request lists of the blocks, and that does not depend on its workers
  abbrev pub IsListing : Request → Own → List Block → List ℕ → Type 0
  IsListing request own blocks text = IsListingFor request.task request own blocks text

  -- whether a request with this task reads rows
  abbrev pub takes_rows : Task → Option (String Global) → Bool
  takes_rows t file = is_of_rows (input_of (command_of t) file)

  -- so it is for a request with this task, where this file, or none, is named
  abbrev pub ListsAs : Task → Option (String Global) → Held → Request → Option (List ℕ) → Option (List ℕ) → Finding → List ℕ
      → Type 0
  ListsAs t file held request old new finding text =
      ListsBy (command_of t) (input_of (command_of t) file) file held request old new finding text

  abbrev pub ListsFrom : Held → Request → Option (List ℕ) → Option (List ℕ) → Finding → List ℕ → Type 0
  ListsFrom held request old new finding text = ListsAs request.task request.task_file held request old new finding text

  -- what holds where a run of the request ends with this fault before anything is written
  abbrev pub EndsReading : Held → Request → Option (List ℕ) → Option (List ℕ) → RunFault → Type 0
  EndsReading held request old new fault =
      let command : Command = command_of request.task in
      IsCaused (causes_of command (input_of command request.task_file) request.task_file held request old new) fault

  -- and where one ends with this fault: a write fails at a prefix of the listing, and after any other fault nothing is written
  abbrev pub EndsRun : Held → Request → Option (List ℕ) → Option (List ℕ) → Option (List ℕ) → Option (List ℕ) → RunFault
      → Type 0
  EndsRun held request read_old read_new written_old written_new WriteFailed =
      (finding : Finding) × (text : List ℕ) × ListsFrom held request read_old read_new finding text
      × WritesFront written_old written_new text
  EndsRun held request read_old read_new written_old written_new fault =
      EndsReading held request read_old read_new fault × Keeps written_old written_new
