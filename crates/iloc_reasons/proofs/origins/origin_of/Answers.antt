use Rattle.iloc_reasons.proofs.Common.{◌≡◌, ◌↔◌, get_or, Some, None, sym, ap, ◌∙◌, subst, rules, get_or_default, Op, Nop, op_at}
use Rattle.iloc_reasons.specs.Origins.{origin_at, IsOnly, IsUnknown}
use Rattle.iloc_reasons.proofs.Numbering.{last_origin_is, no_last_is}
use Rattle.iloc_reasons.proofs.origins.origin_of.Goals as goal

pub returns-in_err-i : goal.returns-in_err-i
returns-in_err-i c =
    let ops = c.args.ops.now in
    let k = c.args.k in
    let same : (d : Op) → get_or ops k d ≡ op_at ops k = λ d. get_or_default ops k d Nop c.requires.within in
    let none : origin_at c.args.known.now k ≡ None = search rules in
    λ block partners size are left i. rw c.from_residual.ensures
    (no_last_is c.args.known.now block ops k none partners size are
    (λ j only.
    let found : c.only.result ≡ Some j = (c.only.ensures block partners left j).1
    (subst (λ (op : Op). IsOnly (IsUnknown block partners op) j) (sym (same _)) only) in
    let nothing : c.only.result ≡ None = c.in_err-i.was in
    let wrong : None ≡ Some j = sym nothing ∙ found in
    absurd cc) i)

pub returns-then-l-k : goal.returns-then-l-k
returns-then-l-k c =
    let ops = c.args.ops.now in
    let k = c.args.k in
    let known = c.args.known.now in
    let same : (d : Op) → get_or ops k d ≡ op_at ops k = λ d. get_or_default ops k d Nop c.requires.within in
    let none : origin_at known k ≡ None = search rules in
    λ block partners size are left i. last_origin_is known block ops k none partners size are c.only.result c.only-2.result
    (λ j. subst (λ (op : Op). (c.only.result ≡ Some j) ↔ IsOnly (IsUnknown block partners op) j) (same _)
    (c.only.ensures block partners left j))
    (λ l. subst (λ (op : Op). (c.only-2.result ≡ Some l) ↔ IsOnly (IsUnknown ops known op) l) (same _)
    (c.only-2.ensures ops known c.requires.there l))
    c.in_ok-i.i c.in_ok-i.was (c.in_ok-l.was ∙ ap Some c.if-l-k.true) i
