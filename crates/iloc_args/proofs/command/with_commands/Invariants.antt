use Rattle.iloc_args.proofs.Common.{take, HasApp, app_with}
use Rattle.iloc_args.proofs.command.with_commands.Given as goal

abbrev pub invariant-loop-entry : goal.invariant-loop-entry
invariant-loop-entry l = HasApp (app_with (take l.entry-index l.entries)) l.farm
