use Rattle.iloc_facts.proofs.Changes.{added_is}
use Rattle.iloc_verdict.proofs.checked.changes.added.Goals as goal

pub returns-in-Some : goal.returns-in-Some
returns-in-Some c =
    let are = rw c.in-Some.is at c.in_ok-it.ensures.some in
    added_is c.args.block.now c.args.ops.now c.args.rows.now c.in-Some.it _ are c.issued.ensures
