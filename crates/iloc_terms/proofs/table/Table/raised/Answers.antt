use Rattle.iloc_terms.proofs.Common.{◌+ℤ◌, FitsSigned, ap, ◌∙◌, w32, rules, wrapped, if_ok, base_word}
use Rattle.iloc_terms.proofs.Terms.Arithmetic.{stored, raised_parts}
use Rattle.iloc_terms.proofs.table.Table.raised.Goals as goal

pub returns : goal.returns
returns c =
    let kept : FitsSigned w32 c.parts-parts.result.constant = search rules in
    let by_fits : FitsSigned w32 c.args.by = search rules in
    let fits : FitsSigned w32 c.sum.result = search rules in
    if_ok _ _ c.of_parts.result (λ n says memory d meaning.
    let more = says memory d meaning in (
      more.0,
      more.1
          ∙ ap (λ x. wrapped (base_word d c.parts-parts.result.base +ℤ x)) (stored (λ x y. wrapped (x +ℤ y))
          c.parts-parts.result.constant c.args.by c.sum.result kept by_fits fits c.sum.ensures)
          ∙ raised_parts (d.word c.args.number) (base_word d c.parts-parts.result.base) c.parts-parts.result.constant
          c.args.by (c.parts-parts.ensures memory d more.0),
    )) c.of_parts.ensures
