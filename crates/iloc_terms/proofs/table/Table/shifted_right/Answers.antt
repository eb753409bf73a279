use Rattle.iloc_terms.proofs.Common.{FitsSigned, sym, ap, ◌∙◌, w32, rules, to_z-of_z, int_shr, shift_of, if_ok}
use Rattle.iloc_terms.proofs.Terms.Shifts.{bits_of}
use Rattle.iloc_terms.proofs.table.Table.shifted_right.Goals as goal

pub returns-in-Some : goal.returns-in-Some
returns-in-Some c =
    let fits : FitsSigned w32 c.cast_signed.result = search rules in
    if_ok _ _ c.shifted_right_by.result (λ n says memory d meaning.
    let whole = says memory d meaning in
    let amount = c.in_ok-amount.ensures memory d whole.0 in (
      amount.0,
      whole.1
          ∙ ap (λ k. int_shr (d.word c.args.value) k) (ap (λ x. shift_of x)
          (to_z-of_z w32 c.cast_signed.result fits ∙ c.cast_signed.ensures)
          ∙ bits_of c.in-Some.bits c.in-Some.ensures.at_most ∙ sym (c.in-Some.ensures.are memory d whole.0) ∙ amount.1),
    )) c.shifted_right_by.ensures
