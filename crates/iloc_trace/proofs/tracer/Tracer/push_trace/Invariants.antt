use Rattle.iloc_trace.proofs.Common.{◌≡◌, ◌++◌, issued_before, trace_lines}
use Rattle.iloc_trace.specs.Steps.Rows.{Follows}
use Rattle.iloc_trace.proofs.WholeRuns.{events_before}
use Rattle.iloc_trace.proofs.tracer.Tracer.push_trace.Given as goal

abbrev pub invariant-loop-cycle : goal.invariant-loop-cycle
invariant-loop-cycle l = record {
  first : l.self-inside.machine.memory.first ≡ l.fn.self;
  lists : l.text.items ≡ l.fn.text.items
      ++ trace_lines (events_before l.latencies l.fn.self l.schedule.ops l.schedule.rows l.cycle);
  follows : Follows l.latencies l.fn.self l.cycle
      (issued_before l.latencies l.fn.self l.schedule.ops l.schedule.rows l.cycle) l.self-inside.machine;
}
