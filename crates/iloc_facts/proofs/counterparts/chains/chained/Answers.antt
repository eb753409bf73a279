use Rattle.std.proofs.Common.{rules, ◌≡◌, length, arith}
use Rattle.iloc_facts.proofs.NthLike.{none_chained, chained_at}
use Rattle.iloc_facts.proofs.counterparts.chains.chained.Goals as goal

pub loop-place-init : goal.loop-place-init
loop-place-init c = λ k here.
    let size : length c.in_ok-next.next.items ≡ length c.args.ops.now = search rules in
    none_chained c.args.ops.now k _ (omega arith) size c.none-waiting.ensures

pub put_first-requires-clause-later : goal.put_first-requires-clause-later
put_first-requires-clause-later c = c.loop-place.invariant _ (omega arith)

pub loop-place-preserved : goal.loop-place-preserved
loop-place-preserved c = λ k here. chained_at _ _ k _ c.in_ok-put_first.ensures (omega arith)

pub returns : goal.returns
returns c = c.loop-place.invariant 0 (omega arith)
