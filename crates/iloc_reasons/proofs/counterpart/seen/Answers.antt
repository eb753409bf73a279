use Rattle.iloc_reasons.proofs.Claims.{see_fact}
use Rattle.iloc_reasons.proofs.counterpart.seen.Goals as goal

pub returns-then-not-are_same : goal.returns-then-not-are_same
returns-then-not-are_same c =
    let sides = c.args.sides.now in
    see_fact sides.latencies.now sides.block.items sides.schedule.now.ops sides.schedule.now.rows c.args.k c.args.i
    c.in_ok-issue.issue c.in_ok-issue.ensures.is
    (rw (c.deref.ensures.value, c.ops-ops.ensures.ops) at (c.is_counterpart.ensures.0 c.if-is_counterpart.true))
    (rw (c.in_ok-given.ensures.is, c.in_ok-reading.ensures.is) at (c.are_same.ensures c.if-not-are_same.true))
