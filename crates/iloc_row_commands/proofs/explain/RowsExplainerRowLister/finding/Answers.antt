use Rattle.iloc_row_commands.proofs.Common.{ap, ◌∙◌, rules, tests, YieldsList-from_slice, all_from_yields_List, finding_of, ExplainedRows}
use Rattle.iloc_row_commands.proofs.explain.RowsExplainerRowLister.finding.Goals as goal

pub returns : goal.returns
returns c =
    let all = all_from_yields_List (λ (one : ExplainedRows). one.is_lawful) _ _ c.all.result c.all.ensures.ran (YieldsList-from_slice c.args.found.now cc)
    (λ x b q k. search (rules, tests)) in
    c.of.ensures ∙ ap finding_of all
