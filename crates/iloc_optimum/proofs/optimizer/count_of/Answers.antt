use Rattle.iloc_optimum.proofs.Common.{arith, common_steps}
use Rattle.iloc_optimum.proofs.Improvements.{cycles_within}
use Rattle.iloc_optimum.proofs.optimizer.count_of.Goals as goal

pub returns-clause-small : goal.returns-clause-small
returns-clause-small c = grind (arith, cycles_within, common_steps)
