use Rattle.iloc_terms.proofs.Common.{pos, ◌+ℤ◌, ◌*ℤ◌, FitsSigned, sym, ap, ◌∙◌, subst, w32, rules, to_z-of_z, cast_signed, cast_unsigned, wrapped, IsMeaning, IsMultiple, base_word}
use Rattle.iloc_terms.proofs.Terms.Arithmetic.{stored}
use Rattle.iloc_terms.proofs.Terms.MultipliedOut.{times_more}
use Rattle.iloc_terms.proofs.table.Table.+times_term.Goals as goal

pub returns : goal.returns
returns t c =
    let by_fits : FitsSigned w32 c.args.by = search rules in
    let first_fits : FitsSigned w32 c.term-first.result.by = search rules in
    let fits : FitsSigned w32 c.product.result = search rules in
    λ memory d meaning.
    let whole = c.in_ok-sum_of_bases.ensures memory d meaning in
    let term = c.in_ok-term.ensures memory d whole.0 in
    let atoms = c.in_ok-atoms.ensures memory d term.0 in
    let rest =
    subst (λ product. IsMeaning memory c.args.self.now d
    × IsMultiple d product c.term-first.result.rest
    (d.word c.args.atom *ℤ cast_signed w32 (cast_unsigned w32 c.args.by)))
    c.in-Some-2.is (c.in_ok-rest.ensures memory d atoms.0) in (
      rest.0,
      times_more (d.word c.in-Some.some) (base_word d c.term-first.result.rest) (d.word c.term-first.result.atom)
          c.term-first.result.by (d.word c.args.atom) c.args.by (base_word d c.in-Some-2.rest)
          (d.word c.in_ok-atoms.atoms) (base_word d c.in_ok-term.term) (base_word d c.in_ok-sum_of_bases.field-0)
          (c.term-first.ensures memory d rest.0)
          (rest.1
          ∙ ap (λ x. wrapped (base_word d c.term-first.result.rest *ℤ (d.word c.args.atom *ℤ x)))
          (to_z-of_z w32 c.args.by by_fits))
          atoms.1
          (term.1
          ∙ ap (λ x. wrapped (pos 0 +ℤ d.word c.in_ok-atoms.atoms *ℤ x))
          (stored (λ x y. wrapped (x *ℤ y)) c.term-first.result.by c.args.by c.product.result first_fits by_fits fits
          c.product.ensures))
          whole.1
          ∙ ap (λ base. wrapped (base_word d base *ℤ (d.word c.args.atom *ℤ c.args.by))) (sym c.in-Some.is),
    )
