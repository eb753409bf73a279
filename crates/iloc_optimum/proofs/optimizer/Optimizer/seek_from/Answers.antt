use Rattle.iloc_optimum.proofs.Common.{arith, common_steps}
use Rattle.iloc_optimum.proofs.optimizer.Optimizer.seek_from.Goals as goal

pub returns : goal.returns
returns c = grind (arith, common_steps)
