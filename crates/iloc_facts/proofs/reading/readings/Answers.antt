use Rattle.std.proofs.Common.{◌<◌, ◌≤◌, ◌∙◌, length, arith}
use Rattle.iloc_timed.proofs.Arrivals.{zero_known, one_known}
use Rattle.iloc_facts.proofs.ReadingRows.{length-with_noted, row_noted, all_noted}
use Rattle.iloc_facts.proofs.Tracking.{log_before, row_tracked}
use Rattle.iloc_facts.proofs.reading.readings.Goals as goal

pub note-requires-clause-known : goal.note-requires-clause-known
note-requires-clause-known c =
    rw (c.rows-row-items.ensures.rows, c.ops-ops.ensures.ops) (zero_known _ _ c.loop-cycle.cycle c.ops-ops.ensures.table)

pub note-requires-in-loop-cycle-clause-known : goal.note-requires-in-loop-cycle-clause-known
note-requires-in-loop-cycle-clause-known c =
    rw (c.rows-row-items.ensures.rows, c.ops-ops.ensures.ops) (one_known _ _ c.loop-cycle.cycle c.ops-ops.ensures.table)

pub note-requires-clause-sized : goal.note-requires-clause-sized
note-requires-clause-sized c = rw c.ops-ops.ensures.ops c.loop-cycle.invariant.noted.size

pub note-requires-in-loop-cycle-clause-sized : goal.note-requires-in-loop-cycle-clause-sized
note-requires-in-loop-cycle-clause-sized c =
    rw (c.note.ensures, c.ops-ops.ensures.ops) (length-with_noted _ _ _ ∙ c.loop-cycle.invariant.noted.size)

pub issue-requires-clause-known : goal.issue-requires-clause-known
issue-requires-clause-known c =
    rw (c.rows-row-items.ensures.rows, c.ops-ops.ensures.ops) (zero_known _ _ c.loop-cycle.cycle c.ops-ops.ensures.table)

pub issue-requires-in-loop-cycle-clause-known : goal.issue-requires-in-loop-cycle-clause-known
issue-requires-in-loop-cycle-clause-known c =
    rw (c.rows-row-items.ensures.rows, c.ops-ops.ensures.ops) (one_known _ _ c.loop-cycle.cycle c.ops-ops.ensures.table)

pub issue-requires-clause-early : goal.issue-requires-clause-early
issue-requires-clause-early c =
    let within : c.loop-cycle.cycle < length c.args.schedule.now.rows =
    rw c.rows-row-items.ensures.rows at c.loop-cycle-test.true in
    let few = c.rows-row-items.ensures.few in omega arith

pub issue-requires-in-loop-cycle-clause-early : goal.issue-requires-in-loop-cycle-clause-early
issue-requires-in-loop-cycle-clause-early c =
    let within : c.loop-cycle.cycle < length c.args.schedule.now.rows =
    rw c.rows-row-items.ensures.rows at c.loop-cycle-test.true in
    let few = c.rows-row-items.ensures.few in omega arith

pub loop-cycle-preserved : goal.loop-cycle-preserved
loop-cycle-preserved c =
    let lat = c.args.latencies.now in
    let schedule = c.args.schedule.now in
    let table = c.ops-ops.ensures.table in
    let landed = c.in_ok-land.ensures (log_before lat schedule.ops schedule.rows c.loop-cycle.cycle) c.loop-cycle.invariant.tracks in
    record {
      tracks = row_tracked lat schedule.ops schedule.rows c.loop-cycle.cycle c.ops-ops.result.now c.rows-row-items.result.now
          c.land.new.self c.issue.new.self c.issue-in-loop-cycle.new.self table c.ops-ops.ensures.ops c.rows-row-items.ensures.rows
          landed c.in_ok-issue.ensures c.in_ok-issue-2.ensures;
      noted = row_noted lat schedule.ops schedule.rows table c.loop-cycle.cycle c.ops-ops.result.now c.rows-row-items.result.now
          c.land.new.self c.loop-cycle.readings.items c.note.new.readings.items c.note-in-loop-cycle.new.readings.items
          c.ops-ops.ensures.ops c.rows-row-items.ensures.rows landed c.loop-cycle.invariant.noted c.note.ensures
          c.note-in-loop-cycle.ensures;
    }

pub returns-clause-each : goal.returns-clause-each
returns-clause-each c =
    let past : length c.args.schedule.now.rows ≤ c.loop-cycle.cycle =
    rw c.rows-row-items.ensures.rows at c.loop-cycle-test.false in
    all_noted c.args.latencies.now c.args.schedule.now.ops c.args.schedule.now.rows c.ops-ops.ensures.table c.loop-cycle.cycle
    c.loop-cycle.readings.items past c.loop-cycle.invariant.noted
