use Rattle.std.proofs.Common.{◌∙◌, ◌≡◌, ◌++◌, length, codes}
use Rattle.iloc_verdict.specs.Entry.Json as json
use Rattle.iloc_verdict.proofs.Appended.{four}
use Rattle.iloc_verdict.proofs.json.push_json.Goals as goal

pub returns : goal.returns
returns c =
    let judged = c.args.judged.now in
    let ops = judged.ops.now in
    let rows = judged.rows.now in
    let verdict = judged.judgement.verdict in
    let origins = judged.judgement.origins.items in
    c.in_ok-extend_from_slice.ensures.items
    ∙ rw (c.in_ok-push_origins.ensures, c.in_ok-push_detail.ensures, c.in_ok-push_verdict.ensures)
    (four c.args.text.now.items (json.verdict_members c.args.passing (length rows) judged.checked)
    (json.detail_members ops rows verdict) (json.origins_member verdict origins rows) (codes "}\n"))
