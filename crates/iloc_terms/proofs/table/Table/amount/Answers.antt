use Rattle.iloc_terms.proofs.Common.{◌≡◌, pos, ◌+ℤ◌, ◌*ℤ◌, IfSome, FitsSigned, subst, ap, ◌∙◌, w32, rules, wrapped, high_bits, IsMeaning, if_ok, base_word}
use Rattle.iloc_terms.proofs.Terms.Arithmetic.{stored}
use Rattle.iloc_terms.proofs.Terms.Products.{times_parts}
use Rattle.iloc_terms.proofs.Terms.Shifts.{highest}
use Rattle.iloc_terms.proofs.table.Table.amount.Goals as goal

pub returns-in-Some : goal.returns-in-Some
returns-in-Some c =
    let kept : FitsSigned w32 c.parts-parts.result.constant = search rules in
    let by_fits : FitsSigned w32 (pos 134217728) = search rules in
    let fits : FitsSigned w32 c.product.result = search rules in
    if_ok _ _ c.raised.result (λ n says memory d meaning.
    let whole = says memory d meaning in
    let back =
    subst (λ word. IsMeaning memory c.args.self.now d
    × IfSome word (λ k. d.word k ≡ wrapped (base_word d c.parts-parts.result.base *ℤ pos 134217728)))
    c.in-Some.is (c.in_ok-word.ensures memory d whole.0) in (
      back.0,
      ap (λ z. high_bits z) (whole.1
          ∙ ap (λ x. wrapped (d.word c.in-Some.word +ℤ x)) (stored (λ x y. wrapped (x *ℤ y))
          c.parts-parts.result.constant (pos 134217728) c.product.result kept by_fits fits c.product.ensures)
          ∙ ap (λ x. wrapped (x +ℤ wrapped (c.parts-parts.result.constant *ℤ pos 134217728))) back.1
          ∙ times_parts (d.word c.args.amount) (base_word d c.parts-parts.result.base) c.parts-parts.result.constant
          (pos 134217728) (c.parts-parts.ensures memory d back.0))
          ∙ highest (d.word c.args.amount) (meaning.fits c.args.amount),
    )) c.raised.ensures

pub returns-in-None : goal.returns-in-None
returns-in-None c = if_ok _ _ c.scaled.result (λ n says memory d meaning.
    let whole = says memory d meaning in
    let back = c.in_ok-word.ensures memory d whole.0 in (
      back.0,
      ap (λ z. high_bits z) whole.1 ∙ highest (d.word c.args.amount) (meaning.fits c.args.amount),
    )) c.scaled.ensures
