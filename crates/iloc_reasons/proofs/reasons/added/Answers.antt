use Rattle.iloc_facts.proofs.Changes.{added_is}
use Rattle.iloc_reasons.proofs.reasons.added.Goals as goal

pub returns-in-Some : goal.returns-in-Some
returns-in-Some c =
    let are = rw (c.in-Some.is, c.ops.ensures.ops, c.deref.ensures.value) at c.in_ok-it.ensures.some in
    added_is c.args.sides.now.block.items c.args.sides.now.schedule.now.ops c.args.sides.now.schedule.now.rows
    c.in-Some.it _ are c.issued.ensures

pub returns-in-None : goal.returns-in-None
returns-in-None c = rw (c.in-None.is, c.ops.ensures.ops, c.deref.ensures.value) at c.in_ok-it.ensures.none
