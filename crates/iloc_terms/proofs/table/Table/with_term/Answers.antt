use Rattle.iloc_terms.proofs.Common.{◌≡◌, pos, ◌+ℤ◌, ◌*ℤ◌, FitsSigned, Some, sym, ap, ◌∙◌, arith, w32, rules, wrapped, if_ok, base_word}
use Rattle.iloc_terms.proofs.Terms.Arithmetic.{stored}
use Rattle.iloc_terms.proofs.Terms.Sums.{one_more}
use Rattle.iloc_terms.proofs.table.Table.with_term.Goals as goal

pub returns-then-eq : goal.returns-then-eq
returns-then-eq c =
    let by_fits : FitsSigned w32 c.args.by = search rules in
    let one_fits : FitsSigned w32 (pos 1) = search rules in
    let fits : FitsSigned w32 c.sum.result = search rules in
    let same : c.args.rest ≡ Some c.args.atom = grind arith in
    if_ok _ _ c.of_terms.result (λ base says memory d meaning.
    let more = says memory d meaning in (
      more.0,
      more.1
          ∙ ap (λ x. wrapped (pos 0 +ℤ d.word c.args.atom *ℤ x)) (stored (λ x y. wrapped (x +ℤ y)) c.args.by (pos 1)
          c.sum.result by_fits one_fits fits c.sum.ensures)
          ∙ one_more (d.word c.args.atom) c.args.by
          ∙ ap (λ rest. wrapped (base_word d rest +ℤ d.word c.args.atom *ℤ c.args.by)) (sym same),
    )) c.of_terms.ensures
