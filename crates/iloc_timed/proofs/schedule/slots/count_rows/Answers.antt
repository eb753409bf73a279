use Rattle.std.proofs.lemmas.Grind.{common_steps}
use Rattle.std.proofs.Common.{arith}
use Rattle.iloc_timed.proofs.Standing.{in_range_zero, in_range_one, times_more}
use Rattle.iloc_timed.proofs.schedule.slots.count_rows.Goals as goal

pub count_slot-requires : goal.count_slot-requires
count_slot-requires c = grind (arith, in_range_zero, common_steps)

pub count_slot-requires-in-loop-row : goal.count_slot-requires-in-loop-row
count_slot-requires-in-loop-row c = grind (arith, in_range_one, common_steps)

pub loop-row-preserved : goal.loop-row-preserved
loop-row-preserved c = grind (arith, times_more, common_steps)
