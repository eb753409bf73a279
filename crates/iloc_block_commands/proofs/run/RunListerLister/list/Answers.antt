use Rattle.iloc_block_commands.proofs.Common.{sym, ap, ◌∙◌, outcome, shown, if_ok}
use Rattle.iloc_block_commands.proofs.Listers.{run_listed}
use Rattle.iloc_block_commands.proofs.run.RunListerLister.list.Goals as goal

pub returns-clause-listed : goal.returns-clause-listed
returns-clause-listed c =
    let block = c.args.job.now.block.now in
    let words = c.outputs-words.ensures
    ∙ ap shown (c.in_ok-run.ensures.outcome ∙ ap (outcome block.ops) c.requires) in
    if_ok _ c.push_outcome.result
    (λ _. run_listed c.args.request.now c.args.job.now.number block c.args.text.now.items _ _ c.as_ref.ensures.value _ words
    (sym c.is_placed.ensures ∙ c.if-is_placed.false))
    c.push_outcome.ensures
