use Rattle.iloc_args.proofs.Commands.{next_argument}
use Rattle.iloc_args.proofs.command.Entry.command.Goals as goal

pub loop-argument-preserved : goal.loop-argument-preserved
loop-argument-preserved c =
    next_argument c.args.self.now.name.now c.args.self.now.arguments.now c.loop-argument.argument-index _ _ _ _ c.loop-argument-test.true
    c.loop-argument.invariant c.arg.ensures c.in_ok-command.ensures
