use Rattle.iloc_terms.proofs.Common.{◌≡◌, ◌+◌, ◌%◌, min, FitsSigned, sym, ap, ◌∙◌, arith, w32, rules, to_z-of_z, cast_unsigned, int_shr, shift_of, high_bits, if_ok}
use Rattle.iloc_terms.proofs.Terms.Shifts.{bits_highest, shr_both}
use Rattle.iloc_terms.proofs.table.Table.shifted_right_by.Goals as goal

pub returns : goal.returns
returns c =
    let fits : FitsSigned w32 c.args.amount = search rules in
    let signed_fits : FitsSigned w32 c.cast_signed.result = search rules in
    let bits : c.cast_unsigned-bits.result % 32 ≡ shift_of c.args.amount =
    ap (λ x. x % 32) (c.cast_unsigned-bits.ensures ∙ ap (cast_unsigned w32) (to_z-of_z w32 c.args.amount fits)) in
    let least : c.min-bits.result ≡ min (c.as_shifted-shifted.result.bits + c.cast_unsigned-bits.result % 32) 31 =
    omega (arith, c.min-bits.ensures) in
    if_ok _ _ c.combined.result (λ n says memory d meaning.
    let whole = says memory d meaning in
    let amount = c.in_ok-amount.ensures memory d whole.0 in (
      amount.0,
      whole.1
          ∙ ap (λ k. int_shr (d.word c.as_shifted-shifted.result.value) k)
          (ap (λ z. high_bits z) (amount.1 ∙ to_z-of_z w32 c.cast_signed.result signed_fits ∙ c.cast_signed.ensures)
          ∙ bits_highest c.min-bits.result (omega (arith, least)) ∙ least)
          ∙ shr_both (d.word c.as_shifted-shifted.result.value) c.as_shifted-shifted.result.bits
          (c.cast_unsigned-bits.result % 32) (meaning.fits c.as_shifted-shifted.result.value)
          ∙ ap (λ x. int_shr x (c.cast_unsigned-bits.result % 32))
          (sym (c.as_shifted-shifted.ensures.is_shifted memory d amount.0))
          ∙ ap (λ k. int_shr (d.word c.args.value) k) bits,
    )) c.combined.ensures
