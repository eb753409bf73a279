use Rattle.iloc_rows.proofs.Common.{◌<◌, length, get_or, slice_set, ap, ◌∙◌, arith, get_or_default, in_either_slot}
use Rattle.std.proofs.lemmas.List.Edits.{map_over_more}
use Rattle.iloc_rows.proofs.proposal.Rows.use_either_slot.Goals as goal

pub loop-row-preserved : goal.loop-row-preserved
loop-row-preserved c =
    let rows = c.loop-row.row-items in
    let i = c.loop-row.row-index in
    let within : i < length rows = omega arith in
    ap (slice_set rows i) c.in_either_slot.ensures
    ∙ map_over_more (in_either_slot c.args.ops.now) c.args.self.now rows i (get_or rows i _)
    (omega (arith, ap length c.self.view_is)) c.loop-row.invariant (get_or_default rows i _ _ within)
