use Rattle.iloc_facts.proofs.Common.{◌≡◌, get_or, Some, subst, get_or_default, Op, Nop, op_at, SetsLike}
use Rattle.iloc_facts.proofs.NumberedLabels.{none_numbered, one_more_numbered}
use Rattle.iloc_facts.proofs.by_label.ByLabel.of.Goals as goal

pub loop-i-init : goal.loop-i-init
loop-i-init c = none_numbered c.args.ops.now _ c.none-numbers.ensures

pub loop-i-preserved : goal.loop-i-preserved
loop-i-preserved c =
    let ops = c.args.ops.now in
    let i = c.loop-i.i in
    let same : (d : Op) → get_or ops i d ≡ op_at ops i = λ d. get_or_default ops i d Nop c.loop-i-test.true in
    one_more_numbered ops i c.loop-i.numbers c.set.new.self c.loop-i.invariant
    (subst (λ (op : Op). SetsLike c.loop-i.numbers c.set.new.self op (Some i)) (same _) c.in_ok-set.ensures)
