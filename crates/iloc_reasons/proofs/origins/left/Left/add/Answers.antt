use Rattle.iloc_reasons.proofs.Common.{◌≡◌, get_or, Some, None, sym, refl, ap, ◌∙◌, subst, get_or_default, Op, Nop, op_at}
use Rattle.iloc_facts.specs.ByLabel.{SetsLike, number_like}
use Rattle.iloc_reasons.proofs.Numbering.{first_left, more_left}
use Rattle.iloc_reasons.proofs.origins.left.Left.add.Goals as goal

pub returns-in_ok-set-in-None : goal.returns-in_ok-set-in-None
returns-in_ok-set-in-None c =
    let ops = c.args.ops.now in
    let i = c.args.i in
    let old = c.args.self.now in
    let same : (d : Op) → get_or ops i d ≡ op_at ops i = λ d. get_or_default ops i d Nop c.requires.within in
    first_left ops c.args.noted.now i c.requires.within c.requires.unknown old (record old { first = c.set.new.self })
    c.requires.so_far (ap (number_like old.first) (sym (same _)) ∙ sym c.number.ensures ∙ c.in-None.is)
    (subst (λ (op : Op). SetsLike old.first c.set.new.self op (Some i)) (same _) c.in_ok-set-in-None.ensures) refl

pub returns-in_ok-set-in-Some : goal.returns-in_ok-set-in-Some
returns-in_ok-set-in-Some c =
    let ops = c.args.ops.now in
    let i = c.args.i in
    let old = c.args.self.now in
    let same : (d : Op) → get_or ops i d ≡ op_at ops i = λ d. get_or_default ops i d Nop c.requires.within in
    more_left ops c.args.noted.now i c.requires.within c.requires.unknown old (record old { more = c.set-in-Some.new.self })
    c.requires.so_far _ (ap (number_like old.first) (sym (same _)) ∙ sym c.number.ensures ∙ c.in-Some.is)
    (subst (λ (op : Op). SetsLike old.more c.set-in-Some.new.self op (Some i)) (same _) c.in_ok-set-in-Some.ensures) refl
