use Rattle.iloc_terms.proofs.Common.{◌*ℤ◌, FitsSigned, sym, ap, ◌∙◌, subst, w32, rules, to_z-of_z, cast_signed, cast_unsigned, wrapped, IsMeaning, IsMultiple, base_word}
use Rattle.iloc_terms.proofs.Terms.MultipliedOut.{out_more}
use Rattle.iloc_terms.proofs.table.Table.+multiplied_out.Goals as goal

pub returns : goal.returns
returns t c =
    let by_fits : FitsSigned w32 c.term-first.result.by = search rules in
    λ memory d meaning.
    let whole = c.in_ok-sum_of_bases.ensures memory d meaning in
    let row =
    subst (λ product. IsMeaning memory c.multiplied_out.new.self d
    × IsMultiple d product c.args.right
    (d.word c.term-first.result.atom *ℤ cast_signed w32 (cast_unsigned w32 c.term-first.result.by))) c.in-Some-3.is
    (c.in_ok-row.ensures memory d whole.0) in
    let rest =
    subst (λ product. IsMeaning memory c.args.self.now d
    × IsMultiple d product c.term-first.result.rest (base_word d c.args.right)) c.in-Some-2.is
    (c.in_ok-rest.ensures memory d row.0) in (
      rest.0,
      out_more (d.word c.in-Some.some) (base_word d c.args.right) (base_word d c.term-first.result.rest)
          (d.word c.term-first.result.atom *ℤ c.term-first.result.by) (base_word d c.in-Some-2.rest)
          (base_word d c.in-Some-3.row) (base_word d c.in_ok-sum_of_bases.field-0)
          (c.term-first.ensures memory d rest.0) rest.1
          (row.1
          ∙ ap (λ x. wrapped (base_word d c.args.right *ℤ (d.word c.term-first.result.atom *ℤ x)))
          (to_z-of_z w32 c.term-first.result.by by_fits))
          whole.1
          ∙ ap (λ base. wrapped (base_word d base *ℤ base_word d c.args.right)) (sym c.in-Some.is),
    )
