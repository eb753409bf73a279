use Rattle.iloc_block_commands.proofs.Common.{is_some, sym, ◌∙◌, on_ok_weaker, has, Csv}
use Rattle.iloc_block_commands.proofs.Comparisons.{totals_pushed}
use Rattle.iloc_block_commands.proofs.compare.push_totals.Goals as goal

pub returns : goal.returns
returns c =
    let request = c.args.request.now in
    on_ok_weaker c.push_tally_line-2.result
    (λ pushed.
    totals_pushed (has request.flags Csv) request.nodes c.is_some-own.result (is_some request.priorities_file) c.args.found.now
    c.args.text.now.items _ _ _ (sym c.has.ensures ∙ c.if-has.false) c.is_some-own.ensures c.in_ok-push_sums_line.ensures
    c.in_ok-push_tally_line.ensures pushed) c.push_tally_line-2.ensures
