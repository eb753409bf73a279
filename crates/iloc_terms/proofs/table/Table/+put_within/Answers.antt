use Rattle.iloc_terms.proofs.Common.{◌==◌, refl, ◌∙◌, by_bool}
use Rattle.iloc_terms.proofs.table.Table.+put_within.Goals as goal

pub returns-then-is_at_most_at : goal.returns-then-is_at_most_at
returns-then-is_at_most_at t c = λ memory d meaning.
    let added = c.in_ok-intern.ensures memory d meaning in (
      added.0,
      λ key. added.1 key ∙ by_bool (key == c.args.key)
          (λ same. rw same refl)
          (λ other. rw (other, c.is_at_most_at.ensures c.if-is_at_most_at.true memory d added.0 key other) refl),
    )
