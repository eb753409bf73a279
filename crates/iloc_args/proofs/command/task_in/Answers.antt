use Rattle.std.proofs.Common.{rules}
use Rattle.iloc_args.proofs.Commands.{found_in}
use Rattle.iloc_args.proofs.command.task_in.Goals as goal

pub returns : goal.returns
returns c = found_in c.args.entries.now c.args.name.now c.map.result (search rules)
