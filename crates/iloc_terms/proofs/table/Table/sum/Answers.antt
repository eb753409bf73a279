use Rattle.iloc_terms.proofs.Common.{◌+ℤ◌, FitsSigned, ap, ◌∙◌, w32, rules, wrapped, if_ok, base_word}
use Rattle.iloc_terms.proofs.Terms.Arithmetic.{stored, sum_parts}
use Rattle.iloc_terms.proofs.table.Table.sum.Goals as goal

pub returns : goal.returns
returns c =
    let first : FitsSigned w32 c.parts-one.result.constant = search rules in
    let second : FitsSigned w32 c.parts-other.result.constant = search rules in
    let fits : FitsSigned w32 c.sum.result = search rules in
    if_ok _ _ c.of_parts.result (λ n says memory d meaning.
    let more = says memory d meaning in
    let base = c.in_ok-base.ensures memory d more.0 in (
      base.0,
      more.1
          ∙ ap (λ x. wrapped (base_word d c.in_ok-base.base +ℤ x)) (stored (λ x y. wrapped (x +ℤ y))
          c.parts-one.result.constant c.parts-other.result.constant c.sum.result first second fits c.sum.ensures)
          ∙ ap (λ x. wrapped (x +ℤ wrapped (c.parts-one.result.constant +ℤ c.parts-other.result.constant))) base.1
          ∙ sum_parts (d.word c.args.left) (d.word c.args.right) (base_word d c.parts-one.result.base)
          (base_word d c.parts-other.result.base) c.parts-one.result.constant c.parts-other.result.constant
          (c.parts-one.ensures memory d base.0) (c.parts-other.ensures memory d base.0),
    )) c.of_parts.ensures
