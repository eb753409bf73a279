use Rattle.iloc_terms.proofs.Common.{◌+ℤ◌, ◌*ℤ◌, FitsSigned, Some, sym, ap, ◌∙◌, subst, w32, rules, to_z-of_z, wrapped, IsMeaning, IsSumOfBases, base_word}
use Rattle.iloc_terms.proofs.Terms.Sums.{term_before}
use Rattle.iloc_terms.proofs.table.Table.+merged.Goals as goal

pub returns : goal.returns
returns t c =
    let by_fits : FitsSigned w32 c.first_term-first.result.by = search rules in
    λ memory d meaning.
    let whole = c.in_ok-with_term.ensures memory d meaning in
    let rest =
    subst (λ sum. IsMeaning memory c.args.self.now d
    × IsSumOfBases d sum c.first_term-first.result.left c.first_term-first.result.right) c.in-Some-2.is
    (c.in_ok-rest.ensures memory d whole.0) in (
      rest.0,
      term_before (base_word d c.first_term-first.result.left) (base_word d c.first_term-first.result.right)
          (base_word d c.in-Some-2.rest) (d.word c.first_term-first.result.atom *ℤ c.first_term-first.result.by)
          (base_word d c.in_ok-with_term.field-0) rest.1
          (whole.1
          ∙ ap (λ x. wrapped (base_word d c.in-Some-2.rest +ℤ d.word c.first_term-first.result.atom *ℤ x))
          (to_z-of_z w32 c.first_term-first.result.by by_fits))
          ∙ sym (c.first_term-first.ensures memory d rest.0)
          ∙ ap (λ base. wrapped (base_word d base +ℤ base_word d (Some c.in-Some-right.other))) (sym c.in-Some.is)
          ∙ ap (λ base. wrapped (base_word d c.args.left +ℤ base_word d base)) (sym c.in-Some-right.is),
    )
