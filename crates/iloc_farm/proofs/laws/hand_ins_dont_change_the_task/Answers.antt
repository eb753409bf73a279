use Rattle.iloc_farm.proofs.Tasks.{hand_ins_dont_change_the_task}
use Rattle.iloc_farm.proofs.laws.hand_ins_dont_change_the_task.Goals as goal

pub returns : goal.returns
returns c = hand_ins_dont_change_the_task
