use Rattle.iloc_block_commands.proofs.Common.{false, ◌++◌, sum_by, sym, ap, ◌∙◌, counted_by, counted}
use Rattle.iloc_listing.specs.Listing.{field}
use Rattle.iloc_block_commands.proofs.Comparisons.{columns_more, place_there}
use Rattle.iloc_block_commands.proofs.compare.push_sums_by.Goals as goal

pub loop-place-preserved : goal.loop-place-preserved
loop-place-preserved c =
    columns_more false (λ h. sum_by (counted_by (counted c.args.tally) h) c.args.found.now) c.args.text.now.items
    c.loop-place.text.items _
    c.loop-place.place c.sum-sum.result _ c.loop-place-test.true c.loop-place.invariant
    (c.sum-sum.ensures _ (sym (place_there c.loop-place.place _ c.loop-place-test.true)))
    (c.in_ok-push_field.ensures ∙ ap (λ word. c.loop-place.text.items ++ field false word c.sum-sum.result) c.priority_name.ensures)
