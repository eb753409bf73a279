use Rattle.iloc_optimum.proofs.Common.{arith, common_steps, get_or_read}
use Rattle.iloc_optimum.proofs.CoveredStack.{split_keeps}
use Rattle.iloc_optimum.proofs.windows.split.Goals as goal

pub returns-clause-all : goal.returns-clause-all
returns-clause-all c = grind (arith, get_or_read, split_keeps, common_steps)
