use Rattle.iloc_text.specs.ScheduleLines.{Says, said_of}
use Rattle.iloc_rows.proofs.Ends.{something_is_one}
use Rattle.iloc_rows.proofs.blocks_end.is_schedule_line.Goals as goal

pub returns-in-Ok : goal.returns-in-Ok
returns-in-Ok c =
    let says : Says c.args.line.now (said_of c.in-Ok.found) = rw c.in-Ok.is at c.read_schedule_line.ensures in
    something_is_one c.args.line.now (said_of c.in-Ok.found) c.is_nothing.result says c.is_nothing.ensures
