use Rattle.std.proofs.Common.{◌≡◌, map, take}
use Rattle.iloc_timed.specs.declared.latencies.Latencies.{Latencies}
use Rattle.iloc_timed.specs.Latency.{latency}
use Rattle.iloc_timed.specs.RowByRow.{HasRun}
use Rattle.iloc_timed.proofs.machine.Machine.run.Given as goal

abbrev pub invariant-loop-cycle : goal.invariant-loop-cycle
invariant-loop-cycle l = record {
  first : l.self.state.memory.first ≡ l.fn.self.state.memory.first;
  ran : (lat : Latencies) → l.own ≡ map (latency lat) l.schedule.ops
      → HasRun lat l.schedule.ops (take l.cycle l.schedule.rows) l.self;
}
