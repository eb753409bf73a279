use Rattle.iloc_args.proofs.Common.{take, HasApp, with_arguments}
use Rattle.iloc_args.proofs.command.Entry.command.Given as goal

abbrev pub invariant-loop-argument : goal.invariant-loop-argument
invariant-loop-argument l = HasApp (with_arguments l.self.name.now (take l.argument-index l.self.arguments.now)) l.command
