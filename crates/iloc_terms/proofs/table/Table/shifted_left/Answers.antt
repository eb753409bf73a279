use Rattle.iloc_terms.proofs.Common.{FitsSigned, sym, ap, ◌∙◌, w32, rules, to_z-of_z, int_shl, shift_of, high_bits, if_ok}
use Rattle.iloc_terms.proofs.Terms.Shifts.{bits_of, shifted_product}
use Rattle.iloc_terms.proofs.table.Table.shifted_left.Goals as goal

pub returns-in-Some : goal.returns-in-Some
returns-in-Some c =
    let fits : FitsSigned w32 c.cast_signed.result = search rules in
    if_ok _ _ c.shifted_left_by.result (λ n says memory d meaning.
    let whole = says memory d meaning in
    let amount = c.in_ok-amount.ensures memory d whole.0 in (
      amount.0,
      whole.1
          ∙ ap (λ k. int_shl w32 (d.word c.args.value) k) (ap (λ x. shift_of x)
          (to_z-of_z w32 c.cast_signed.result fits ∙ c.cast_signed.ensures)
          ∙ bits_of c.in-Some.bits c.in-Some.ensures.at_most ∙ sym (c.in-Some.ensures.are memory d whole.0) ∙ amount.1),
    )) c.shifted_left_by.ensures

pub returns : goal.returns
returns c = if_ok _ _ c.product.result (λ n says memory d meaning.
    let whole = says memory d meaning in
    let power = c.in_ok-power.ensures memory d whole.0 in
    let one = c.in_ok-one.ensures memory d power.0 in
    let amount = c.in_ok-amount.ensures memory d one.0 in (
      amount.0,
      whole.1
          ∙ shifted_product (d.word c.args.value) (high_bits (d.word c.in_ok-amount.amount)) (d.word c.in_ok-power.power)
          (meaning.fits c.args.value)
          (power.1 ∙ ap (λ x. int_shl w32 x (high_bits (d.word c.in_ok-amount.amount))) one.1)
          ∙ ap (λ k. int_shl w32 (d.word c.args.value) k) amount.1,
    )) c.product.ensures
