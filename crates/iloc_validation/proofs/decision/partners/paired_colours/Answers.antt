use Rattle.std.proofs.lemmas.Result.{IfOk-weaker}
use Rattle.iloc_validation.proofs.NoPartner.{pair_coloured}
use Rattle.iloc_validation.proofs.decision.partners.paired_colours.Goals as goal

pub returns : goal.returns
returns c =
    IfOk-weaker c.kept_colours.result _ _ (pair_coloured c.args.sides.now c.args.colours.now.here.items
    c.args.colours.now.there.items c.args.i c.args.k)
    (rw (c.in_ok-here.ensures, c.in_ok-there.ensures, c.deref.ensures.value, c.deref-2.ensures.value) at c.kept_colours.ensures)
