use Rattle.iloc_sched.proofs.Common.{arith, map-set}
use Rattle.iloc_sched.proofs.cycle.waiting.Waiting.change.Goals as goal

pub returns-clause-unmet : goal.returns-clause-unmet
returns-clause-unmet c = grind (arith, map-set)

pub returns-clause-earliest : goal.returns-clause-earliest
returns-clause-earliest c = grind (arith, map-set)
