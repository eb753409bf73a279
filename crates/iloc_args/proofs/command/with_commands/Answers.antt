use Rattle.iloc_args.proofs.Commands.{next_command}
use Rattle.iloc_args.proofs.command.with_commands.Goals as goal

pub loop-entry-preserved : goal.loop-entry-preserved
loop-entry-preserved c =
    next_command c.args.entries.now c.loop-entry.entry-index _ _ _ _ c.loop-entry-test.true c.loop-entry.invariant c.in_ok-command.ensures c.in_ok-farm-2.ensures
