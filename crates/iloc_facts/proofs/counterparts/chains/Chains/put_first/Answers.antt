use Rattle.iloc_facts.proofs.Common.{◌≡◌, get_or, Some, refl, ap, ◌∙◌, subst, get_or_default, Op, Nop, op_at, SetsLike, number_like}
use Rattle.iloc_facts.proofs.NthLike.{put_first_chained}
use Rattle.iloc_facts.proofs.counterparts.chains.Chains.put_first.Goals as goal

pub returns : goal.returns
returns c =
    let ops = c.args.ops.now in
    let k = c.args.k in
    let same : (d : Op) → get_or ops k d ≡ op_at ops k = λ d. get_or_default ops k d Nop c.requires.within in
    put_first_chained ops k c.args.self.now _ c.number.result c.requires.within c.requires.later
    (c.number.ensures ∙ ap (number_like c.args.self.now.waiting) (same _)) refl
    (subst (λ (op : Op). SetsLike c.args.self.now.waiting c.set.new.self op (Some k)) (same _) c.in_ok-set.ensures)
