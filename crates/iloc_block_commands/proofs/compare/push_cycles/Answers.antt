use Rattle.iloc_block_commands.proofs.Common.{◌++◌, ap, ◌∙◌, cycles_by}
use Rattle.iloc_listing.specs.Listing.{field}
use Rattle.iloc_block_commands.proofs.Comparisons.{cycles_at, columns_more}
use Rattle.iloc_block_commands.proofs.compare.push_cycles.Goals as goal

pub loop-place-preserved : goal.loop-place-preserved
loop-place-preserved c =
    let compared = c.args.comparison.now in
    columns_more c.args.csv (λ h. cycles_by h compared) c.args.text.now.items c.loop-place.text.items _
    c.loop-place.place c.from.result _ c.loop-place-test.true c.loop-place.invariant
    (c.from.ensures ∙ cycles_at compared c.loop-place.place _ c.loop-place-test.true)
    (c.in_ok-push_field.ensures ∙ ap (λ word. c.loop-place.text.items ++ field c.args.csv word c.from.result) c.priority_name.ensures)
