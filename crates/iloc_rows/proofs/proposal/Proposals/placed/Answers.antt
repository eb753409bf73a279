use Rattle.iloc_rows.proofs.Common.{length, get_or, slice_set, ap, ◌∙◌, arith, with_either_slot}
use Rattle.std.proofs.lemmas.List.Edits.{map_over_more}
use Rattle.iloc_rows.proofs.proposal.Proposals.placed.Goals as goal

pub loop-proposal-preserved : goal.loop-proposal-preserved
loop-proposal-preserved c =
    let items = c.loop-proposal.proposal-items in
    let i = c.loop-proposal.proposal-index in
    ap (slice_set items i) c.use_either_slot.ensures
    ∙ map_over_more with_either_slot c.args.self items i (get_or items i c.proposal-item.result)
    (omega (arith, ap length c.self.view_is)) c.loop-proposal.invariant (ap (get_or items i) c.proposal-item.is)
