use Rattle.std.proofs.lemmas.Grind.{common_steps}
use Rattle.std.proofs.Common.{arith}
use Rattle.iloc_timed.proofs.WholeRuns.{begins}
use Rattle.iloc_timed.proofs.machine.Machine.restart.Goals as goal

pub returns-clause-follows : goal.returns-clause-follows
returns-clause-follows c = grind (arith, begins, common_steps)
