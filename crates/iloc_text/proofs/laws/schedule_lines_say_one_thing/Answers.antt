use Rattle.iloc_text.proofs.ScheduleLines.Says.{one_said}
use Rattle.iloc_text.proofs.laws.schedule_lines_say_one_thing.Goals as goal

pub returns : goal.returns
returns c = one_said
