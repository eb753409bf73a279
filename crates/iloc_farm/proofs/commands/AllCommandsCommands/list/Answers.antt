use Rattle.iloc_args.specs.declared.request.Task.TheVariants as task
use Rattle.iloc_farm.proofs.Receipts.{as_asked}
use Rattle.iloc_farm.proofs.commands.AllCommandsCommands.list.Goals as goal

pub returns-in-Run : goal.returns-in-Run
returns-in-Run g c =
    as_asked task.Run _ c.args.request.now _ _ _ c.in-Run.is c.alone.ensures

pub returns-in-Simulate : goal.returns-in-Simulate
returns-in-Simulate g c =
    as_asked task.Simulate _ c.args.request.now _ _ _ c.in-Simulate.is c.alone-in-Simulate.ensures

pub returns-in-Schedule : goal.returns-in-Schedule
returns-in-Schedule g c =
    as_asked task.Schedule _ c.args.request.now _ _ _ c.in-Schedule.is c.shared.ensures

pub returns-in-Counts : goal.returns-in-Counts
returns-in-Counts g c =
    as_asked task.Counts _ c.args.request.now _ _ _ c.in-Counts.is c.shared-in-Counts.ensures

pub returns-in-Compare : goal.returns-in-Compare
returns-in-Compare g c =
    as_asked task.Compare _ c.args.request.now _ _ _ c.in-Compare.is c.shared-in-Compare.ensures

pub returns-in-Optimize : goal.returns-in-Optimize
returns-in-Optimize g c =
    as_asked task.Optimize _ c.args.request.now _ _ _ c.in-Optimize.is c.shared-in-Optimize.ensures

pub returns-in-Graph : goal.returns-in-Graph
returns-in-Graph g c =
    as_asked task.Graph _ c.args.request.now _ _ _ c.in-Graph.is c.alone-in-Graph.ensures

pub returns-in-Trace : goal.returns-in-Trace
returns-in-Trace g c = as_asked task.Trace _ c.args.request.now _ _ _ c.in-Trace.is c.of_file_or_rows.ensures

pub returns-in-Explain : goal.returns-in-Explain
returns-in-Explain g c =
    as_asked task.Explain _ c.args.request.now _ _ _ c.in-Explain.is c.shared_or_rows.ensures

pub returns-in-Check : goal.returns-in-Check
returns-in-Check g c = as_asked task.Check _ c.args.request.now _ _ _ c.in-Check.is c.of_rows.ensures
