use Rattle.iloc_block_commands.proofs.Common.{◌++◌, ap, ◌∙◌, ap₂, arith, count_line, opening_as, count_ending, count_header, listing_of_counts}
use Rattle.iloc_block_commands.proofs.Listers.{counted_listing, gone_over}
use Rattle.iloc_block_commands.proofs.counts.CountListerFarmedLister.listing.Goals as goal

pub returns-clause-made : goal.returns-clause-made
returns-clause-made c =
    let csv = c.has-csv.result in
    c.of_text.ensures ∙ (c.in_ok-push_ending.ensures ∙ ap₂ (λ t each. t ++ count_ending csv each)
    (gone_over (count_line csv) (opening_as csv count_header) c.loop-index.text.items c.loop-index.index
    c.as_slice-block-items.result.now c.args.blocks c.args.cycles.items (omega arith) c.as_slice-block-items.ensures c.loop-index.invariant)
    c.deref.ensures.value)
    ∙ ap (λ csv. listing_of_counts csv c.args.blocks c.args.cycles.items) c.has-csv.ensures

pub returns-clause-right : goal.returns-clause-right
returns-clause-right c = λ own are.
    counted_listing c.args.request.now own c.args.blocks c.args.cycles.items c.of_text.result are (returns-clause-made c)
