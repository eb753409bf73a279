use Rattle.iloc_terms.proofs.Common.{◌+ℤ◌, ◌*ℤ◌, FitsSigned, ap, ◌∙◌, subst, w32, rules, to_z-of_z, wrapped, IsMeaning, IsMultiple, base_word}
use Rattle.iloc_terms.proofs.Terms.Arithmetic.{stored}
use Rattle.iloc_terms.proofs.Terms.MultipliedOut.{product_parts}
use Rattle.iloc_terms.proofs.table.Table.product_of_parts.Goals as goal

pub returns : goal.returns
returns c =
    let first : FitsSigned w32 c.parts-one.result.constant = search rules in
    let second : FitsSigned w32 c.parts-other.result.constant = search rules in
    let fits : FitsSigned w32 c.product-constant.result = search rules in
    λ memory d meaning.
    let whole = c.in_ok-of_parts.ensures memory d meaning in
    let base = c.in_ok-base.ensures memory d whole.0 in
    let mixed = c.in_ok-mixed.ensures memory d base.0 in
    let other = c.in_ok-other_scaled.ensures memory d mixed.0 in
    let scaled = c.in_ok-scaled.ensures memory d other.0 in
    let bases =
    subst (λ product. IsMeaning memory c.args.self.now d
    × IsMultiple d product c.parts-one.result.base (base_word d c.parts-other.result.base)) c.in-Some.is
    (c.in_ok-bases.ensures memory d scaled.0) in (
      bases.0,
      product_parts (d.word c.args.left) (d.word c.args.right) (base_word d c.parts-one.result.base)
          c.parts-one.result.constant (base_word d c.parts-other.result.base) c.parts-other.result.constant
          (base_word d c.in-Some.bases) (base_word d c.in_ok-scaled.scaled)
          (base_word d c.in_ok-other_scaled.other_scaled) (base_word d c.in_ok-mixed.mixed)
          (base_word d c.in_ok-base.base) (d.word c.in_ok-of_parts.field-0) (c.parts-one.ensures memory d bases.0)
          (c.parts-other.ensures memory d bases.0) bases.1
          (scaled.1
          ∙ ap (λ x. wrapped (base_word d c.parts-one.result.base *ℤ x))
          (to_z-of_z w32 c.parts-other.result.constant second))
          (other.1
          ∙ ap (λ x. wrapped (base_word d c.parts-other.result.base *ℤ x))
          (to_z-of_z w32 c.parts-one.result.constant first))
          mixed.1 base.1
          (whole.1
          ∙ ap (λ x. wrapped (base_word d c.in_ok-base.base +ℤ x))
          (stored (λ x y. wrapped (x *ℤ y)) c.parts-one.result.constant c.parts-other.result.constant
          c.product-constant.result first second fits c.product-constant.ensures)),
    )
