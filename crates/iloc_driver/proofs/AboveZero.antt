-- No fault has status 0.
use Rattle.iloc_driver.proofs.Common.{◌≡◌, ℕ, List, Option, Result, arith, Command, file_status, numbers_status, priorities_status, rows_status, task_status, text_status, Args, IsStopped, status_of, Held, NumbersFault, Priorities, Rows, Text}
use Rattle.std.specs.declared.io.Error.{Error}
use Rattle.iloc_text.specs.declared.fault.ReadFault.{ReadFault}
use Rattle.iloc_text.specs.declared.fault.ReadFault.TheVariants as text
use Rattle.iloc_rows.specs.declared.fault.RowsFault.{RowsFault}
use Rattle.iloc_rows.specs.declared.fault.RowsFault.TheVariants as rows
use Rattle.iloc_args.specs.declared.fault.LineFault.TheVariants as line
use Rattle.iloc_args.specs.declared.request.Task.{Task}
use Rattle.iloc_driver.specs.declared.fault.RunFault.TheVariants.{Task as of_task}
use Rattle.iloc_driver.specs.declared.fault.FileFault.{FileFault}
use Rattle.iloc_driver.specs.declared.fault.FileFault.TheVariants as file_fault
use Rattle.iloc_driver.specs.declared.fault.NumbersFault.TheVariants as numbers_fault
use Rattle.iloc_driver.specs.declared.fault.PrioritiesFault.{PrioritiesFault}
use Rattle.iloc_driver.specs.declared.fault.PrioritiesFault.TheVariants as priorities_fault
use Rattle.iloc_driver.specs.declared.fault.TaskFault.{TaskFault}
use Rattle.iloc_driver.specs.declared.fault.TaskFault.TheVariants as task_fault
use Rattle.iloc_driver.specs.declared.program.Fault.{Fault}
use Rattle.iloc_driver.specs.declared.program.Fault.TheVariants.{Line, Run}

text_above_0 : (fault : ReadFault) → text_status fault ≡ 0 → ⊥
text_above_0 text.InputTooLong zero = omega arith
text_above_0 _ zero = omega arith

rows_above_0 : (fault : RowsFault) → rows_status fault ≡ 0 → ⊥
rows_above_0 (rows.Read fault) zero = text_above_0 fault zero
rows_above_0 _ zero = omega arith

file_above_0 : (fault : FileFault) → file_status fault ≡ 0 → ⊥
file_above_0 file_fault.NoMemory zero = omega arith
file_above_0 _ zero = omega arith

task_above_0 : (fault : TaskFault) → task_status fault ≡ 0 → ⊥
task_above_0 (task_fault.Unread fault) zero = file_above_0 fault zero
task_above_0 (task_fault.Text fault) zero = rows_above_0 fault zero

numbers_above_0 : (fault : NumbersFault) → numbers_status fault ≡ 0 → ⊥
numbers_above_0 numbers_fault.NoMemory zero = omega arith
numbers_above_0 _ zero = omega arith

priorities_above_0 : (fault : PrioritiesFault) → priorities_status fault ≡ 0 → ⊥
priorities_above_0 (priorities_fault.Unread fault) zero = file_above_0 fault zero
priorities_above_0 (priorities_fault.Text fault) zero = numbers_above_0 fault zero

pub above_0 : (command_of : Task → Command) (held : Held) (words : Result Args Error)
    (read_old read_new written_old written_new : Option (List ℕ)) (fault : Fault)
    → IsStopped command_of held words read_old read_new written_old written_new fault → status_of fault ≡ 0 → ⊥
above_0 command_of held words ro rn wo wn (Line (line.Help help)) stopped zero = stopped.no_help
above_0 command_of held words ro rn wo wn (Run (Text fault)) stopped zero = text_above_0 fault zero
above_0 command_of held words ro rn wo wn (Run (Rows fault)) stopped zero = rows_above_0 fault zero
above_0 command_of held words ro rn wo wn (Run (of_task fault)) stopped zero = task_above_0 fault zero
above_0 command_of held words ro rn wo wn (Run (Priorities fault)) stopped zero = priorities_above_0 fault zero
above_0 command_of held words ro rn wo wn _ stopped zero = omega arith
