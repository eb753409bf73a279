use Rattle.iloc_explain.proofs.Common.{◌+◌, ◌<◌, ◌≤◌, length, arith, op_at, issued_within, latency, issue_cycle, LONGEST_DELAY}
use Rattle.iloc_explain.proofs.PathWalks.{arrival_more, arrival_read}
use Rattle.iloc_explain.proofs.Bindings.{explained_there}
use Rattle.iloc_explain.proofs.path.arrivals.Goals as goal

pub overflow_cast-explained : goal.overflow_cast-explained
overflow_cast-explained c =
    let known : c.loop-i.i < length c.args.schedule.now.ops = rw c.ops-ops.ensures.ops at c.loop-i-test.true in
    let own = explained_there c.requires.0 c.requires.1 c.args.latencies.now c.args.schedule.now.ops c.args.schedule.now.rows c.args.explained.now
    c.requires.2 c.loop-i.i c.index-explained-i.result known in
    let within : issue_cycle c.args.schedule.now.rows c.loop-i.i < length c.args.schedule.now.rows =
    issued_within c.args.schedule.now.ops c.args.schedule.now.rows c.loop-i.i known c.ops-ops.ensures.table in
    omega (arith, c.rows-rows.ensures.few, own.cycle)

pub overflow_add-explained : goal.overflow_add-explained
overflow_add-explained c =
    let known : c.loop-i.i < length c.args.schedule.now.ops = rw c.ops-ops.ensures.ops at c.loop-i-test.true in
    let own = explained_there c.requires.0 c.requires.1 c.args.latencies.now c.args.schedule.now.ops c.args.schedule.now.rows c.args.explained.now
    c.requires.2 c.loop-i.i c.index-explained-i.result known in
    let within : issue_cycle c.args.schedule.now.rows c.loop-i.i < length c.args.schedule.now.rows =
    issued_within c.args.schedule.now.ops c.args.schedule.now.rows c.loop-i.i known c.ops-ops.ensures.table in
    let short : c.latency.result ≤ LONGEST_DELAY = c.latency.ensures.within.1 in
    omega (arith, c.rows-rows.ensures.few, own.cycle)

pub loop-i-preserved : goal.loop-i-preserved
loop-i-preserved c =
    let known : c.loop-i.i < length c.args.schedule.now.ops = rw c.ops-ops.ensures.ops at c.loop-i-test.true in
    let own = explained_there c.requires.0 c.requires.1 c.args.latencies.now c.args.schedule.now.ops c.args.schedule.now.rows c.args.explained.now
    c.requires.2 c.loop-i.i c.index-explained-i.result known in
    arrival_more (λ i. issue_cycle c.args.schedule.now.rows i + latency c.args.latencies.now (op_at c.args.schedule.now.ops i))
    c.loop-i.found.items _ c.loop-i.i _ c.loop-i.invariant c.in_ok-push.ensures.items
    (arrival_read c.args.latencies.now c.args.schedule.now.ops c.ops-ops.result.now c.args.schedule.now.rows c.loop-i.i _ _ _
    known c.ops-ops.ensures.ops own.cycle c.latency.ensures.latency)
