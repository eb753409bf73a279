-- Why a run ends before anything is written.
use Rattle.std.specs.Prelude.{◌≡◌, ℕ, List, Option, Some, None, Err}
use Rattle.std.specs.Io.KnownBytes.{Keeps}
use Rattle.std.specs.String.{string_bytes}
use Rattle.std.specs.declared.alloc.Global.{Global}
use Rattle.std.specs.declared.string.String.{String}
use Rattle.iloc_ops.specs.declared.file.Block.{Block}
use Rattle.iloc_text.specs.Files as files
use Rattle.iloc_text.specs.Streams.{ReadsText}
use Rattle.iloc_text.specs.declared.fault.ReadFault.{ReadFault}
use Rattle.iloc_rows.specs.Submissions as submissions
use Rattle.iloc_rows.specs.declared.fault.RowsFault.{RowsFault}
use Rattle.iloc_driver.specs.Run.Apart.{AreRefusedApart, HasNoTask, Held, Holds}
use Rattle.iloc_driver.specs.Priorities.{priorities_in}
use Rattle.iloc_driver.specs.Command.{Alone, Command, Input, Listers, OfFile, OfRows, OfText, Shared}
use Rattle.iloc_args.specs.declared.request.Request.{Request}
use Rattle.iloc_driver.specs.declared.fault.FarmFault.TheVariants as farm
use Rattle.iloc_driver.specs.declared.fault.PrioritiesFault.{PrioritiesFault}
use Rattle.iloc_driver.specs.declared.fault.PrioritiesFault.TheVariants as of_priorities
use Rattle.iloc_driver.specs.declared.fault.NumbersFault.{NumbersFault}
use Rattle.iloc_driver.specs.declared.fault.RunFault.{RunFault}
use Rattle.iloc_driver.specs.declared.fault.RunFault.TheVariants.{ReadFailed, Text, Rows, Task, Priorities, Farm, WriteFailed}
use Rattle.iloc_driver.specs.declared.fault.TaskFault.{TaskFault}

-- the bytes that were read are refused for this fault
pub record Refuses {F : Type 0} (is_refused : List ℕ → F → Type 0) (old new : Option (List ℕ)) (fault : F)
    : Type 0 where
  pub input : List ℕ
  pub read : ReadsText old new input
  pub refused : is_refused input fault

-- the bytes that were read denote a file
pub record ReadsFile (old new : Option (List ℕ)) : Type 0 where
  pub input : List ℕ
  pub read : ReadsText old new input
  pub blocks : List Block
  pub denoted : files.Denotes input blocks

-- a text of which this is known was read, after it the blocks of a file, and it has no priorities of theirs, for this fault
pub record HasNoneFor (known old new : Option (List ℕ)) (fault : NumbersFault) : Type 0 where
  pub text : List ℕ
  pub held : Holds known text
  pub file : ReadsFile old new
  pub refused : priorities_in text file.blocks ≡ Err fault

-- why there are no priorities: their text was not read, and then no block was, or it is refused
abbrev pub HasNoPriorities : Option (List ℕ) → Option (List ℕ) → Option (List ℕ) → PrioritiesFault → Type 0
HasNoPriorities known old new (of_priorities.Unread fault) = Keeps old new
HasNoPriorities known old new (of_priorities.Text fault) = HasNoneFor known old new fault

-- What holds where a fault ends a run before anything is written, fault by fault. Memory may be wanting always.
pub record Causes : Type 1 where
  -- a read failed
  pub device : Type 0
  -- the input is no file
  pub text : ReadFault → Type 0
  -- it is no blocks with rows, or no rows for the task
  pub rows : RowsFault → Type 0
  -- there is no task
  pub task : TaskFault → Type 0
  -- there are no priorities
  pub priorities : PrioritiesFault → Type 0
  -- no worker could be started
  pub thread : Type 0

-- memory alone
abbrev pub of_memory : Causes
of_memory = record { device = ⊥; text = λ _. ⊥; rows = λ _. ⊥; task = λ _. ⊥; priorities = λ _. ⊥; thread = ⊥ }

-- and reads
abbrev pub of_reading : Causes
of_reading = record of_memory { device = Unit {0} }

-- the fault has its cause
abbrev pub IsCaused : Causes → RunFault → Type 0
IsCaused causes ReadFailed = causes.device
IsCaused causes (Text fault) = causes.text fault
IsCaused causes (Rows fault) = causes.rows fault
IsCaused causes (Task fault) = causes.task fault
IsCaused causes (Priorities fault) = causes.priorities fault
IsCaused causes (Farm farm.NoThread) = causes.thread
IsCaused causes (Farm farm.NoMemory) = Unit {0}
IsCaused causes WriteFailed = ⊥

-- of a file
abbrev pub of_file : Option (List ℕ) → Option (List ℕ) → Causes
of_file old new = record of_reading { text = Refuses files.IsRefused old new }

-- and of priorities, where a file of them is named
abbrev pub of_ranked_file : Option (String Global) → Held → Option (List ℕ) → Option (List ℕ) → Causes
of_ranked_file None held old new = of_file old new
of_ranked_file (Some name) held old new =
    record (of_file old new) { priorities = HasNoPriorities (held (string_bytes name)) old new }

-- where workers list it, who are started once all is read
abbrev pub of_shared_file : Option (String Global) → Held → Option (List ℕ) → Option (List ℕ) → Causes
of_shared_file file held old new = record (of_ranked_file file held old new) { thread = ReadsFile old new }

-- of blocks with rows
abbrev pub of_submission : Option (List ℕ) → Option (List ℕ) → Causes
of_submission old new = record of_reading { rows = Refuses submissions.IsRefused old new }

-- of a file, by who lists it
abbrev pub of_listed_file : Listers → Request → Held → Option (List ℕ) → Option (List ℕ) → Causes
of_listed_file Alone request held old new = of_ranked_file request.priorities_file held old new
of_listed_file (Shared A answers cycles_in made_of) request held old new =
    of_shared_file request.priorities_file held old new

-- of a task, of whose text this is known
abbrev pub of_task : Option (List ℕ) → Causes
of_task known = record of_memory { task = HasNoTask known }

-- and of rows apart from it; of a bad task no row is read
abbrev pub of_rows_apart : Option (List ℕ) → Option (List ℕ) → Option (List ℕ) → Causes
of_rows_apart known old new = record of_reading {
  rows = AreRefusedApart known old new;
  task = λ fault. HasNoTask known fault × Keeps old new;
}

-- of what a command reads
abbrev pub causes_of : Command → Input → Option (String Global) → Held → Request → Option (List ℕ) → Option (List ℕ) → Causes
causes_of command OfFile file held request old new = of_listed_file command.listers request held old new
causes_of command OfRows None held request old new = of_submission old new
causes_of command OfRows (Some name) held request old new = of_rows_apart (held (string_bytes name)) old new
causes_of command OfText file held request old new = of_reading
