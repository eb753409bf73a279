use Rattle.iloc_optimum.proofs.Common.{arith, common_steps, count_most}
use Rattle.iloc_optimum.proofs.FullCycles.{count_next}
use Rattle.iloc_optimum.proofs.crowds.count_inside.Goals as goal

pub overflow_add-count : goal.overflow_add-count
overflow_add-count c = grind (arith, count_most, common_steps)

pub loop-i-preserved : goal.loop-i-preserved
loop-i-preserved c = grind (arith, count_next, common_steps)
