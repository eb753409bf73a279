-- The commands.
use Rattle.std.specs.Prelude.{◌≡◌}
use Rattle.iloc_args.specs.declared.request.Task.{Task}
use Rattle.iloc_args.specs.declared.request.Task.TheVariants as task
use Rattle.iloc_driver.specs.Command.{Command, of_files_or_rows}
use Rattle.iloc_driver.specs.Work.{ReceiptOf}
use Rattle.iloc_block_commands.specs.Compare.{compare_command}
use Rattle.iloc_block_commands.specs.Counts.{counts_command}
use Rattle.iloc_block_commands.specs.Lint.{lint_command}
use Rattle.iloc_block_commands.specs.Optimize.{optimize_command}
use Rattle.iloc_block_commands.specs.Run.{run_command}
use Rattle.iloc_block_commands.specs.Schedule.{schedule_command}
use Rattle.iloc_block_commands.specs.Simulate.{simulate_command}
use Rattle.iloc_view_commands.specs.Explain.{explain_files}
use Rattle.iloc_view_commands.specs.Graph.{graph_command}
use Rattle.iloc_view_commands.specs.Trace.{trace_files}
use Rattle.iloc_row_commands.specs.Check.{check_command}
use Rattle.iloc_row_commands.specs.Explain.{Explains}
use Rattle.iloc_row_commands.specs.Trace.{Traces}
use Rattle.iloc_farm.specs.declared.receipt.CommandReceipt.{CommandReceipt}
use Rattle.iloc_farm.specs.declared.receipt.CommandReceipt.TheVariants.{Entries, Cycles, Compared}

abbrev pub explain_command : Command
explain_command = of_files_or_rows explain_files Explains

abbrev pub trace_command : Command
trace_command = of_files_or_rows trace_files Traces

abbrev pub command_of : Task → Command
command_of task.Run = run_command
command_of task.Simulate = simulate_command
command_of task.Trace = trace_command
command_of task.Schedule = schedule_command
command_of task.Counts = counts_command
command_of task.Compare = compare_command
command_of task.Optimize = optimize_command
command_of task.Explain = explain_command
command_of task.Check = check_command
command_of task.Graph = graph_command
command_of task.Lint = lint_command

-- the receipt for what workers listed for a task keeps this
abbrev pub IsReceiptFor : (t : Task) → ReceiptOf (command_of t).listers → CommandReceipt → Type 0
IsReceiptFor task.Schedule kept receipt = receipt ≡ Entries kept
IsReceiptFor task.Counts kept receipt = receipt ≡ Cycles kept
IsReceiptFor task.Compare kept receipt = receipt ≡ Compared kept
IsReceiptFor task.Optimize kept receipt = receipt ≡ Entries kept
IsReceiptFor task.Explain kept receipt = receipt ≡ Entries kept
IsReceiptFor _ kept receipt = ⊥
