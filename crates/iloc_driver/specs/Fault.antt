-- How a run ends: what it finds or what stops it, what is said of a fault, and the exit status.
use Rattle.std.specs.Prelude.{◌≡◌, ℕ, Bool, true, false, List, [], ◌++◌, codes}
use Rattle.std.specs.Fmt.{decimal}
use Rattle.iloc_text.specs.Fault.{fault_text}
use Rattle.iloc_text.specs.declared.fault.ReadFault.{ReadFault}
use Rattle.iloc_text.specs.declared.fault.ReadFault.TheVariants as text
use Rattle.iloc_text.specs.declared.fault.StreamFault.{StreamFault}
use Rattle.iloc_text.specs.declared.fault.StreamFault.TheVariants as stream
use Rattle.iloc_rows.specs.Fault.{rows_fault_text}
use Rattle.iloc_rows.specs.declared.fault.RowsFault.{RowsFault}
use Rattle.iloc_rows.specs.declared.fault.RowsFault.TheVariants as rows
use Rattle.iloc_board.specs.Journal.{JournalView}
use Rattle.iloc_driver.specs.Quoted.{quoted}
use Rattle.iloc_text.specs.declared.fault.InputFault.{InputFault}
use Rattle.iloc_text.specs.declared.fault.InputFault.TheVariants as input
use Rattle.iloc_driver.specs.declared.commands.Finding.{Finding}
use Rattle.iloc_driver.specs.declared.commands.Finding.TheVariants.{Passed, Failed, Unread}
use Rattle.iloc_driver.specs.declared.fault.FarmFault.{FarmFault}
use Rattle.iloc_driver.specs.declared.fault.FarmFault.TheVariants as farm
use Rattle.iloc_driver.specs.declared.fault.RunFault.{RunFault}
use Rattle.iloc_driver.specs.declared.fault.RunFault.TheVariants.{ReadFailed, Text, Rows, Task, Priorities, Farm, WriteFailed}
use Rattle.iloc_driver.specs.declared.fault.FileFault.{FileFault}
use Rattle.iloc_driver.specs.declared.fault.FileFault.TheVariants as file
use Rattle.iloc_driver.specs.declared.fault.PrioritiesFault.{PrioritiesFault}
use Rattle.iloc_driver.specs.declared.fault.PrioritiesFault.TheVariants as of_priorities
use Rattle.iloc_driver.specs.declared.fault.NumbersFault.{NumbersFault}
use Rattle.iloc_driver.specs.declared.fault.NumbersFault.TheVariants as numbers
use Rattle.iloc_driver.specs.declared.fault.TaskFault.{TaskFault}
use Rattle.iloc_driver.specs.declared.fault.TaskFault.TheVariants as of_task

-- what judged somebody's schedules passed where all are the same
abbrev pub finding_of : Bool → Finding
finding_of true = Passed
finding_of false = Failed

-- a text that was searched for faults reads or doesn't
abbrev pub finding_of_text : Bool → Finding
finding_of_text true = Passed
finding_of_text false = Unread

-- 0 where they passed, 5 where they didn't, 1 where the text doesn't read
abbrev pub status_of_finding : Finding → ℕ
status_of_finding Passed = 0
status_of_finding Failed = 5
status_of_finding Unread = 1

-- 1 for a fault in the text, 3 for want of memory
abbrev pub text_status : ReadFault → ℕ
text_status text.InputTooLong = 1
text_status (text.BadLine n) = 1
text_status (text.NumberTooLarge n) = 1
text_status (text.TooManyBlocks n) = 1
text_status (text.TooManyOperations n) = 1
text_status text.NoMemory = 3

-- the same of a text with rows
abbrev pub rows_status : RowsFault → ℕ
rows_status (rows.Read fault) = text_status fault
rows_status rows.NoBlocks = 1
rows_status (rows.NoSuchBlock n) = 1

-- 4 for a file that could not be had
abbrev pub file_status : FileFault → ℕ
file_status file.NoFile = 4
file_status file.NotOpened = 4
file_status file.ReadFailed = 4
file_status file.NoMemory = 3

-- 1 for a fault in the text of a task
abbrev pub task_status : TaskFault → ℕ
task_status (of_task.Unread fault) = file_status fault
task_status (of_task.Text fault) = rows_status fault

-- and of numbers that rank operations
abbrev pub numbers_status : NumbersFault → ℕ
numbers_status numbers.TooLong = 1
numbers_status (numbers.OtherCount k n found) = 1
numbers_status (numbers.NotANumber k word) = 1
numbers_status (numbers.NoBlock k) = 1
numbers_status numbers.NoMemory = 3

abbrev pub priorities_status : PrioritiesFault → ℕ
priorities_status (of_priorities.Unread fault) = file_status fault
priorities_status (of_priorities.Text fault) = numbers_status fault

-- 1 for a fault in the text, 3 for want of memory or of a thread, 4 for a device that failed
abbrev pub run_status_of : RunFault → ℕ
run_status_of ReadFailed = 4
run_status_of (Text fault) = text_status fault
run_status_of (Rows fault) = rows_status fault
run_status_of (Task fault) = task_status fault
run_status_of (Priorities fault) = priorities_status fault
run_status_of (Farm fault) = 3
run_status_of WriteFailed = 4

-- what is said of a fault of the work
abbrev pub farm_text : FarmFault → List ℕ
farm_text farm.NoThread = codes "a worker could not be started"
farm_text farm.NoMemory = codes "out of memory"

-- what is said of a file that was not read
abbrev pub file_text : FileFault → List ℕ
file_text file.NoFile = codes "no such file"
file_text file.NotOpened = codes "opening failed"
file_text file.ReadFailed = codes "reading failed"
file_text file.NoMemory = codes "out of memory"

-- what is said of a task that there isn't: of its own text, and so that it is told apart from the other
abbrev pub task_text : TaskFault → List ℕ
task_text (of_task.Unread fault) = codes "task: " ++ file_text fault
task_text (of_task.Text fault) = codes "task: " ++ rows_fault_text fault

-- `block K: `, and what is wrong there
abbrev pub of_block : ℕ → List ℕ → List ℕ
of_block k what = codes "block " ++ (decimal k ++ what)

-- what is said of numbers that are refused
abbrev pub numbers_text : NumbersFault → List ℕ
numbers_text numbers.TooLong = codes "input longer than 16777216 bytes"
numbers_text (numbers.OtherCount k n found) =
    of_block k (codes ": expected " ++ (decimal n ++ (codes " numbers, one for each operation except nop, found " ++ decimal found)))
numbers_text (numbers.NotANumber k word) =
    of_block k (codes ": expected a number from 0 to 4294967295, found " ++ quoted word)
numbers_text (numbers.NoBlock k) = of_block k (codes ": no such block, but numbers for it")
numbers_text numbers.NoMemory = codes "out of memory"

-- what is said of priorities that there aren't
abbrev pub priorities_text : PrioritiesFault → List ℕ
priorities_text (of_priorities.Unread fault) = codes "priorities: " ++ file_text fault
priorities_text (of_priorities.Text fault) = codes "priorities: " ++ numbers_text fault

-- what is said of a fault of a run
abbrev pub run_text : RunFault → List ℕ
run_text ReadFailed = codes "reading failed"
run_text (Text fault) = fault_text fault
run_text (Rows fault) = rows_fault_text fault
run_text (Task fault) = task_text fault
run_text (Priorities fault) = priorities_text fault
run_text (Farm fault) = farm_text fault
run_text WriteFailed = codes "writing failed"

-- want of memory, wherever it comes
abbrev pub no_memory : RunFault
no_memory = Farm farm.NoMemory

-- the fault of a run that has no input
abbrev pub fault_of_input : InputFault → RunFault
fault_of_input input.ReadFailed = ReadFailed
fault_of_input input.NoMemory = no_memory

-- the fault of a run whose input is no file
abbrev pub fault_of_text : ReadFault → RunFault
fault_of_text text.InputTooLong = Text text.InputTooLong
fault_of_text (text.BadLine n) = Text (text.BadLine n)
fault_of_text (text.NumberTooLarge n) = Text (text.NumberTooLarge n)
fault_of_text (text.TooManyBlocks n) = Text (text.TooManyBlocks n)
fault_of_text (text.TooManyOperations n) = Text (text.TooManyOperations n)
fault_of_text text.NoMemory = no_memory

-- the fault of a run for which no file was read from a stream
abbrev pub fault_of_stream : StreamFault → RunFault
fault_of_stream stream.ReadFailed = ReadFailed
fault_of_stream (stream.Text fault) = fault_of_text fault

-- the fault of a check whose input is no blocks with rows
abbrev pub fault_of_rows : RowsFault → RunFault
fault_of_rows (rows.Read text.InputTooLong) = Rows (rows.Read text.InputTooLong)
fault_of_rows (rows.Read (text.BadLine n)) = Rows (rows.Read (text.BadLine n))
fault_of_rows (rows.Read (text.NumberTooLarge n)) = Rows (rows.Read (text.NumberTooLarge n))
fault_of_rows (rows.Read (text.TooManyBlocks n)) = Rows (rows.Read (text.TooManyBlocks n))
fault_of_rows (rows.Read (text.TooManyOperations n)) = Rows (rows.Read (text.TooManyOperations n))
fault_of_rows (rows.Read text.NoMemory) = no_memory
fault_of_rows rows.NoBlocks = Rows rows.NoBlocks
fault_of_rows (rows.NoSuchBlock n) = Rows (rows.NoSuchBlock n)

-- the fault of a run that has no priorities
abbrev pub fault_of_numbers : NumbersFault → RunFault
fault_of_numbers numbers.TooLong = Priorities (of_priorities.Text numbers.TooLong)
fault_of_numbers (numbers.OtherCount k n found) = Priorities (of_priorities.Text (numbers.OtherCount k n found))
fault_of_numbers (numbers.NotANumber k word) = Priorities (of_priorities.Text (numbers.NotANumber k word))
fault_of_numbers (numbers.NoBlock k) = Priorities (of_priorities.Text (numbers.NoBlock k))
fault_of_numbers numbers.NoMemory = no_memory

-- What holds if `workers` workers were to do the jobs of a board, `made` passes were made, the journals `gathered` were
-- gathered, and it ended with the fault. No thread is started before all passes are made, and one that can't be started
-- is answered before any pass is gathered, so before memory that was refused to a worker. Contracts know nothing of
-- what there is, so it can't be said that a thread was refused, or memory, nor that no thread is left.
abbrev pub EndsWork : ℕ → ℕ → List JournalView → FarmFault → Type 0
EndsWork workers made gathered farm.NoThread = (made ≡ workers) × (gathered ≡ [])
EndsWork workers made gathered farm.NoMemory = Unit {0}
