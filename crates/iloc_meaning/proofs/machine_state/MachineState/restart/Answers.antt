use Rattle.std.proofs.lemmas.Grind.{common_steps}
use Rattle.std.proofs.Common.{arith}
use Rattle.iloc_meaning.proofs.machine_state.MachineState.restart.Goals as goal

pub returns-clause-size : goal.returns-clause-size
returns-clause-size c = grind (arith, common_steps)
