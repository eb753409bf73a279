use Rattle.std.proofs.Common.{◌∙◌}
use Rattle.std.proofs.lemmas.Result.{on_ok_weaker}
use Rattle.iloc_comparison.specs.declared.task.Form.TheVariants.{Json}
use Rattle.iloc_verdict.specs.Entry.Json.{claim_member, kind_member, passing_members}
use Rattle.iloc_verdict.specs.Entry.Listing.{counts_as}
use Rattle.iloc_verdict.proofs.Appended.{four}
use Rattle.iloc_verdict.proofs.json.push_verdict.Goals as goal

pub returns : goal.returns
returns c =
    on_ok_weaker c.push_all-2.result
    (λ e. e ∙ rw (c.claim.ensures, c.in_ok-push_counts.ensures, c.in_ok-push_passing.ensures, c.in_ok-push_all.ensures, c.word.ensures)
    (four c.args.text.now.items (kind_member c.args.checked.kind) (passing_members c.args.passing c.args.rows)
    (counts_as Json c.args.checked) (claim_member c.args.checked.claimed))) c.push_all-2.ensures
