use Rattle.iloc_explain.proofs.GreedyRoom.{greedy_leaves_none}
use Rattle.iloc_explain.proofs.laws.greedy_schedules_leave_no_room.Goals as goal

pub returns : goal.returns
returns c = greedy_leaves_none
