use Rattle.iloc_sched.proofs.Ranks.Sets.{IsReleased}
use Rattle.iloc_sched.proofs.cycle.calendar.Calendar.release_blocks.Given as goal

abbrev pub invariant-loop-block : goal.invariant-loop-block
invariant-loop-block l = IsReleased l.fn.self l.self l.bucket l.block
