use Rattle.iloc_row_commands.proofs.Common.{ap, ◌∙◌, rules, tests, YieldsList-from_slice, all_from_yields_List, list_all, finding_of}
use Rattle.iloc_verdict.specs.Checked.{passes}
use Rattle.iloc_row_commands.proofs.check.CheckListerRowLister.finding.Goals as goal

pub returns : goal.returns
returns c =
    let all = all_from_yields_List (passes c.has-lawful.result) _ _ c.all.result c.all.ensures.ran (YieldsList-from_slice c.args.found.now cc)
    (λ x b q k. search (rules, tests)) in
    c.of.ensures ∙ ap finding_of all ∙ ap (λ lawful. finding_of (list_all (passes lawful) c.args.found.now)) c.has-lawful.ensures
