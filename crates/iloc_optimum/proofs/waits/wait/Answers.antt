use Rattle.iloc_optimum.proofs.Common.{arith, common_steps}
use Rattle.iloc_optimum.proofs.CoveredStack.{none_true}
use Rattle.iloc_optimum.proofs.waits.wait.Goals as goal

pub returns-clause-kept : goal.returns-clause-kept
returns-clause-kept c = grind (arith, none_true, common_steps)
