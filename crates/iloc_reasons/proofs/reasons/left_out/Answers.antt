use Rattle.iloc_reasons.proofs.Common.{◌≡◌, ◌∙◌, get_or, get_or_default, Op, Nop, op_at}
use Rattle.iloc_facts.proofs.Changes.{left_out_is}
use Rattle.iloc_reasons.proofs.reasons.left_out.Goals as goal

pub returns-in-Some : goal.returns-in-Some
returns-in-Some c =
    let block = c.args.sides.now.block.items in
    let are = rw (c.in-Some.is, c.ops.ensures.ops, c.deref.ensures.value) at c.in_ok-it.ensures.some in
    let same : (d : Op) → get_or block c.in-Some.it.number d ≡ op_at block c.in-Some.it.number =
    λ d. get_or_default block c.in-Some.it.number d Nop are.within in
    left_out_is block c.args.sides.now.schedule.now.ops c.in-Some.it _ are (c.index.ensures ∙ same _)

pub returns-in-None : goal.returns-in-None
returns-in-None c = rw (c.in-None.is, c.ops.ensures.ops, c.deref.ensures.value) at c.in_ok-it.ensures.none
