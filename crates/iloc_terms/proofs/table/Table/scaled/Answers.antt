use Rattle.iloc_terms.proofs.Common.{◌+ℤ◌, ◌*ℤ◌, FitsSigned, ap, ◌∙◌, w32, rules, to_z-of_z, wrapped, if_ok, base_word}
use Rattle.iloc_terms.proofs.Terms.Arithmetic.{stored}
use Rattle.iloc_terms.proofs.Terms.Products.{times_parts}
use Rattle.iloc_terms.proofs.table.Table.scaled.Goals as goal

pub returns : goal.returns
returns c =
    let kept : FitsSigned w32 c.parts-parts.result.constant = search rules in
    let by_fits : FitsSigned w32 c.args.by = search rules in
    let fits : FitsSigned w32 c.product.result = search rules in
    if_ok _ _ c.of_parts.result (λ n says memory d meaning.
    let more = says memory d meaning in
    let base = c.in_ok-base.ensures memory d more.0 in (
      base.0,
      more.1
          ∙ ap (λ x. wrapped (base_word d c.in_ok-base.base +ℤ x)) (stored (λ x y. wrapped (x *ℤ y))
          c.parts-parts.result.constant c.args.by c.product.result kept by_fits fits c.product.ensures)
          ∙ ap (λ x. wrapped (x +ℤ wrapped (c.parts-parts.result.constant *ℤ c.args.by)))
          (base.1 ∙ ap (λ x. wrapped (base_word d c.parts-parts.result.base *ℤ x)) (to_z-of_z w32 c.args.by by_fits))
          ∙ times_parts (d.word c.args.number) (base_word d c.parts-parts.result.base) c.parts-parts.result.constant
          c.args.by (c.parts-parts.ensures memory d base.0),
    )) c.of_parts.ensures
