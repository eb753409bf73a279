use Rattle.iloc_timed.proofs.Arrivals.{zero_known, one_known}
use Rattle.iloc_explain.proofs.NextReady.{known_place}
use Rattle.iloc_explain.proofs.ReadyLines.{line_is}
use Rattle.iloc_explain.proofs.cycle_lines.push_cycle.Goals as goal

pub push_taken_from-requires-clause-zero : goal.push_taken_from-requires-clause-zero
push_taken_from-requires-clause-zero c =
    rw (c.rows-rows.ensures.rows, c.ops-ops.ensures.ops) (zero_known _ _ c.args.cycle c.ops-ops.ensures.table)

pub push_taken_from-requires-clause-one : goal.push_taken_from-requires-clause-one
push_taken_from-requires-clause-one c =
    rw (c.rows-rows.ensures.rows, c.ops-ops.ensures.ops) (one_known _ _ c.args.cycle c.ops-ops.ensures.table)

pub push_taken_from-requires-clause-known : goal.push_taken_from-requires-clause-known
push_taken_from-requires-clause-known c = λ p there.
    let known = c.requires.known.2 in
    rw c.ops-ops.ensures.ops (known_place c.requires.known.0 c.requires.known.1 c.args.subject.now.measures.now.delays.latencies.now c.args.subject.now.schedule.now.ops c.args.subject.now.schedule.now.rows
    c.ops-ops.ensures.table known.explained known.are c.args.list.now c.args.cycle known.is c.requires.order p there)

pub returns : goal.returns
returns c = λ prios rule known.
    line_is prios rule c.args.subject.now.measures.now.delays.latencies.now c.args.subject.now.schedule.now.ops c.args.subject.now.schedule.now.rows c.ops-ops.ensures.table c.args.list.now
    c.args.cycle known c.requires.order c.requires.within c.args.text.now.items c.push_front.new.text.items
    c.push_taken_from.new.text.items c.extend_from_slice.new.self.items c.push_pairs.new.text.items _
    (rw c.rows-rows.ensures.rows at c.in_ok-push_front.ensures)
    (rw (c.ops-ops.ensures.ops, c.rows-rows.ensures.rows) at c.in_ok-push_taken_from.ensures)
    c.in_ok-extend_from_slice.ensures.items
    (rw (c.deref.ensures.value, c.in_ok-under_way.ensures) at c.in_ok-push_pairs.ensures)
    c.in_ok-extend_from_slice-2.ensures.items
