use Rattle.iloc_facts.proofs.Common.{AreNoted, Tracks}
use Rattle.iloc_facts.proofs.Tracking.{log_before}
use Rattle.iloc_facts.proofs.reading.readings.Given as goal

abbrev pub invariant-loop-cycle : goal.invariant-loop-cycle
invariant-loop-cycle l = record {
  tracks : Tracks l.cycle (log_before l.latencies l.schedule.ops l.schedule.rows l.cycle) l.run;
  noted : AreNoted l.latencies l.schedule.ops l.schedule.rows l.cycle l.readings.items;
}
