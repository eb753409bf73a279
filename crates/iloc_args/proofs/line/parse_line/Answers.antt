use Rattle.std.proofs.Common.{◌∙◌, sym}
use Rattle.iloc_args.proofs.Matches.{entered_command, name-rows}
use Rattle.iloc_args.proofs.line.parse_line.Goals as goal

pub unreachable-requires-in_default-task_of : goal.unreachable-requires-in_default-task_of
unreachable-requires-in_default-task_of g c =
    let found = entered_command _ c.in-Some.name.now _ _ c.in_ok-matches.ensures.rows c.in-Some.ensures.rows
    (c.in-Some.ensures.name ∙ sym (name-rows _)) c.in_ok-matches.ensures.taken in
    c.in_default-task_of.not-Some found.task (c.task_of.ensures ∙ found.named)

pub request_in-requires : goal.request_in-requires
request_in-requires g c =
    let found = entered_command _ c.in-Some.name.now _ _ c.in_ok-matches.ensures.rows c.in-Some.ensures.rows
    (c.in-Some.ensures.name ∙ sym (name-rows _)) c.in_ok-matches.ensures.taken in
    found.hold
