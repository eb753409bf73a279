use Rattle.std.proofs.lemmas.Result.{IfOk-weaker}
use Rattle.iloc_validation.proofs.FirstColours.{colours_kept}
use Rattle.iloc_validation.proofs.PlacesKept.{first_kept}
use Rattle.iloc_validation.proofs.decision.first_colours.coloured.Goals as goal

pub returns : goal.returns
returns c = IfOk-weaker c.kept_colours.result _ _ (λ found are.
    colours_kept c.args.sides.now c.in_ok-here.here.items c.in_ok-there.there.items found are
    (first_kept c.in_ok-labels.labels c.args.sides.now c.in_ok-here.here.items c.in_ok-there.there.items
    (rw c.deref-2.ensures.value at c.in_ok-here.ensures.each) c.in_ok-there.ensures.each))
    c.kept_colours.ensures
