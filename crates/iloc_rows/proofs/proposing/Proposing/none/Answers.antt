use Rattle.std.proofs.Common.{◌∙◌, ap₂, ◌++◌, ◌∷◌, []}
use Rattle.iloc_rows.proofs.Numbering.{none-more}
use Rattle.iloc_rows.proofs.proposing.Proposing.none.Goals as goal

pub loop-preserved : goal.loop-preserved
loop-preserved c = c.in_ok-push.ensures.items ∙ ap₂ (λ ps p. ps ++ p ∷ []) c.loop.invariant c.none.ensures
    ∙ none-more c.loop.counter
