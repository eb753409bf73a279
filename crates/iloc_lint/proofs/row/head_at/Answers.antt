use Rattle.iloc_lint.proofs.Common.{IfErr-weaker, IfOk-weaker}
use Rattle.iloc_lint.proofs.Stopping.{claim_in_head, left_of_left}
use Rattle.iloc_lint.proofs.row.head_at.Goals as goal

pub returns-in-Ok-clause-ok : goal.returns-in-Ok-clause-ok
returns-in-Ok-clause-ok c =
    IfOk-weaker c.name_after.result _ _ (λ rest left. left_of_left c.args.bytes.now c.in-Ok.rest.now rest.now c.in-Ok.ensures.ok left)
    c.name_after.ensures.ok

pub returns-in-Ok-clause-err : goal.returns-in-Ok-clause-err
returns-in-Ok-clause-err c =
    IfErr-weaker c.name_after.result _ _
    (λ stop s. (left_of_left c.args.bytes.now c.in-Ok.rest.now stop.rest.now c.in-Ok.ensures.ok s.0, s.1)) c.name_after.ensures.err

pub returns-in-Err-clause-err : goal.returns-in-Err-clause-err
returns-in-Err-clause-err c = (c.in-Err.ensures.err.0, claim_in_head c.in-Err.stop.wanted c.in-Err.ensures.err.1)
