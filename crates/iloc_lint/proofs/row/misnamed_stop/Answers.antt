use Rattle.std.proofs.Common.{refl}
use Rattle.iloc_lint.specs.declared.row.Wanted.TheVariants.{OwnName}
use Rattle.iloc_lint.proofs.Stopping.{claim_in_head, in_head, left_of_left}
use Rattle.iloc_lint.proofs.row.misnamed_stop.Goals as goal

pub returns-in-Ok : goal.returns-in-Ok
returns-in-Ok c =
    let left = left_of_left c.in-Some.head.now c.in-Ok.rest.now c.after_blanks.result.now c.in-Ok.ensures.ok
    c.after_blanks.ensures.left in
    in_head c.args.line.now c.after_blanks-rest.result.now c.in-Some.head.now c.after_blanks.result.now OwnName
    c.after_blanks-rest.ensures.blanks c.in-Some.ensures (left, refl)

pub returns-in-Err : goal.returns-in-Err
returns-in-Err c =
    in_head c.args.line.now c.after_blanks-rest.result.now c.in-Some.head.now c.in-Err.stop.rest.now c.in-Err.stop.wanted
    c.after_blanks-rest.ensures.blanks c.in-Some.ensures
    (c.in-Err.ensures.err.0, claim_in_head c.in-Err.stop.wanted c.in-Err.ensures.err.1)
