use Rattle.iloc_reasons.proofs.Numbering.{known_is}
use Rattle.iloc_reasons.proofs.origins.known_origin.Goals as goal

pub returns-then-are_read_alike : goal.returns-then-are_read_alike
returns-then-are_read_alike c =
    let sides = c.args.sides.now in
    known_is sides.latencies.now sides.block.items sides.schedule.now.ops sides.schedule.now.rows c.args.terms.now
    c.args.alone.now.here c.args.alone.now.there c.args.known.now c.in_ok-i.i c.args.k
    c.requires.terms c.requires.here c.requires.there c.requires.within
    (rw (c.deref.ensures.value, c.ops-ops.ensures.ops) at (c.is_labelled.ensures c.if-is_labelled.true))
    c.in_ok-i.ensures.here c.in_ok-i.ensures.there c.in_ok-i.ensures.same
    (rw (c.in_ok-given.ensures.is, c.in_ok-reading.ensures.is) at (c.are_read_alike.ensures c.if-are_read_alike.true))
