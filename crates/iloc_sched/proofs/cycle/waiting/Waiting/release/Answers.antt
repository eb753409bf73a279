use Rattle.std.proofs.Common.{length}
use Rattle.iloc_sched.proofs.Choice.IssuedChoice.{released}
use Rattle.iloc_sched.proofs.Ranks.Calendars.{room_none}
use Rattle.iloc_sched.proofs.cycle.waiting.Waiting.release.Goals as goal

pub release-requires-clause-room : goal.release-requires-clause-room
release-requires-clause-room c =
    room_none c.args.self.now.calendar (length c.args.plan.now.tables.now.ops.items) c.requires.under_way.calendar.room

pub returns-clause-under_way : goal.returns-clause-under_way
returns-clause-under_way c =
    released c.args.plan.now c.args.self.now c.release.new.self c.args.cycle c.requires.plan c.requires.under_way
    c.release.ensures.releases c.release.ensures.room
