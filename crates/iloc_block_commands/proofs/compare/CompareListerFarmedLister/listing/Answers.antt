use Rattle.iloc_block_commands.proofs.Common.{◌++◌, ap, ◌∙◌, ap₂, arith, entries, compare_line, ending_for, opening_for}
use Rattle.iloc_block_commands.proofs.Listers.{compared_listing, gone_over}
use Rattle.iloc_block_commands.proofs.compare.CompareListerFarmedLister.listing.Goals as goal

pub returns-clause-made : goal.returns-clause-made
returns-clause-made c =
    let request = c.args.request.now in
    c.of_text.ensures ∙ (c.in_ok-push_totals.ensures ∙ ap₂ (λ t each. t ++ ending_for request each)
    (gone_over (compare_line c.has-csv.result) (opening_for request) c.loop-index.text.items c.loop-index.index
    c.as_slice-block-items.result.now c.args.blocks c.args.found.items (omega arith) c.as_slice-block-items.ensures c.loop-index.invariant)
    c.deref.ensures.value)
    ∙ ap (λ csv. (opening_for request ++ entries (compare_line csv) 1 c.args.blocks c.args.found.items) ++ ending_for request c.args.found.items)
    c.has-csv.ensures

pub returns-clause-right : goal.returns-clause-right
returns-clause-right c = λ own are.
    compared_listing c.args.request.now own c.args.blocks c.args.found.items c.of_text.result are (returns-clause-made c)
