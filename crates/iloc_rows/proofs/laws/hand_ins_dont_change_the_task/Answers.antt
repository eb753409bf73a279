use Rattle.iloc_rows.proofs.Answer.{one_task}
use Rattle.iloc_rows.proofs.laws.hand_ins_dont_change_the_task.Goals as goal

pub returns : goal.returns
returns c = one_task
