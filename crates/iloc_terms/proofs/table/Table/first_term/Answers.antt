use Rattle.iloc_terms.proofs.Common.{◌≡◌, ◌+ℤ◌, ◌*ℤ◌, FitsSigned, sym, ap, ◌∙◌, arith, w32, rules, to_z-of_z, wrapped, base_word}
use Rattle.iloc_terms.proofs.Terms.Arithmetic.{stored}
use Rattle.iloc_terms.proofs.Terms.Sums.{left_term, right_term, two_terms}
use Rattle.iloc_terms.proofs.table.Table.first_term.Goals as goal

pub returns-in-Greater : goal.returns-in-Greater
returns-in-Greater c =
    let fits : FitsSigned w32 c.term-one.result.by = search rules in
    λ memory d meaning. rw (to_z-of_z w32 c.term-one.result.by fits)
    (left_term (d.word c.args.left) (d.word c.args.right) _ _ (c.term-one.ensures memory d meaning))

pub returns-in-Less : goal.returns-in-Less
returns-in-Less c =
    let fits : FitsSigned w32 c.term-other.result.by = search rules in
    λ memory d meaning. rw (to_z-of_z w32 c.term-other.result.by fits)
    (right_term (d.word c.args.left) (d.word c.args.right) _ _ (c.term-other.ensures memory d meaning))

pub returns-in-Equal : goal.returns-in-Equal
returns-in-Equal c =
    let first : FitsSigned w32 c.term-one.result.by = search rules in
    let second : FitsSigned w32 c.term-other.result.by = search rules in
    let fits : FitsSigned w32 c.sum.result = search rules in
    let same : c.term-other.result.atom ≡ c.term-one.result.atom = grind arith in
    λ memory d meaning.
    two_terms (d.word c.args.left) (d.word c.args.right) (base_word d c.term-one.result.rest)
    (base_word d c.term-other.result.rest) (d.word c.term-one.result.atom) c.term-one.result.by c.term-other.result.by
    (c.term-one.ensures memory d meaning)
    (c.term-other.ensures memory d meaning
    ∙ ap (λ k. wrapped (base_word d c.term-other.result.rest +ℤ d.word k *ℤ c.term-other.result.by)) same)
    ∙ ap (λ x. wrapped ((base_word d c.term-one.result.rest +ℤ base_word d c.term-other.result.rest)
    +ℤ d.word c.term-one.result.atom *ℤ x))
    (sym (stored (λ x y. wrapped (x +ℤ y)) c.term-one.result.by c.term-other.result.by c.sum.result first second fits
    c.sum.ensures))
