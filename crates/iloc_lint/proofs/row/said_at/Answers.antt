use Rattle.iloc_lint.proofs.Common.{refl, IfErr-weaker, IfOk-weaker}
use Rattle.iloc_lint.specs.declared.row.Wanted.TheVariants.{LineEnd}
use Rattle.iloc_lint.proofs.Stopping.{in_cycles, in_head, in_row, in_total}
use Rattle.iloc_lint.proofs.row.said_at.Goals as goal

pub returns-in-Some-clause-ok : goal.returns-in-Some-clause-ok
returns-in-Some-clause-ok c =
    IfOk-weaker c.slots_at.result _ _
    (λ rest left. in_row c.args.line.now c.after_blanks-rest.result.now c.in-Some.slots.now rest.now LineEnd
    c.after_blanks-rest.ensures.blanks c.in-Some.ensures (left, refl)) c.slots_at.ensures.ok

pub returns-in-Some-clause-err : goal.returns-in-Some-clause-err
returns-in-Some-clause-err c =
    IfErr-weaker c.slots_at.result _ _
    (λ stop s. in_row c.args.line.now c.after_blanks-rest.result.now c.in-Some.slots.now stop.rest.now stop.wanted
    c.after_blanks-rest.ensures.blanks c.in-Some.ensures s) c.slots_at.ensures.err

pub returns-in-Some-after_text-clause-ok : goal.returns-in-Some-after_text-clause-ok
returns-in-Some-after_text-clause-ok c =
    IfOk-weaker c.head_at.result _ _
    (λ rest left. in_head c.args.line.now c.after_blanks-rest.result.now c.in-Some-after_text.head.now rest.now LineEnd
    c.after_blanks-rest.ensures.blanks c.in-Some-after_text.ensures (left, refl)) c.head_at.ensures.ok

pub returns-in-Some-after_text-clause-err : goal.returns-in-Some-after_text-clause-err
returns-in-Some-after_text-clause-err c =
    IfErr-weaker c.head_at.result _ _
    (λ stop s. in_head c.args.line.now c.after_blanks-rest.result.now c.in-Some-after_text.head.now stop.rest.now stop.wanted
    c.after_blanks-rest.ensures.blanks c.in-Some-after_text.ensures s) c.head_at.ensures.err

pub returns-in-Some-after_text-2-clause-ok : goal.returns-in-Some-after_text-2-clause-ok
returns-in-Some-after_text-2-clause-ok c =
    IfOk-weaker c.number_after.result _ _
    (λ rest left. in_cycles c.args.line.now c.after_blanks-rest.result.now c.in-Some-after_text-2.claim.now rest.now LineEnd
    c.after_blanks-rest.ensures.blanks c.in-Some-after_text-2.ensures (left, refl)) c.number_after.ensures.ok

pub returns-in-Some-after_text-2-clause-err : goal.returns-in-Some-after_text-2-clause-err
returns-in-Some-after_text-2-clause-err c =
    IfErr-weaker c.number_after.result _ _
    (λ stop s. in_cycles c.args.line.now c.after_blanks-rest.result.now c.in-Some-after_text-2.claim.now stop.rest.now stop.wanted
    c.after_blanks-rest.ensures.blanks c.in-Some-after_text-2.ensures s) c.number_after.ensures.err

pub returns-in-Some-after_text-3-clause-ok : goal.returns-in-Some-after_text-3-clause-ok
returns-in-Some-after_text-3-clause-ok c =
    IfOk-weaker c.number_after-in-Some-after_text-3.result _ _
    (λ rest left. in_total c.args.line.now c.after_blanks-rest.result.now c.in-Some-after_text-3.claim.now rest.now LineEnd
    c.after_blanks-rest.ensures.blanks c.in-Some-after_text-3.ensures (left, refl)) c.number_after-in-Some-after_text-3.ensures.ok

pub returns-in-Some-after_text-3-clause-err : goal.returns-in-Some-after_text-3-clause-err
returns-in-Some-after_text-3-clause-err c =
    IfErr-weaker c.number_after-in-Some-after_text-3.result _ _
    (λ stop s. in_total c.args.line.now c.after_blanks-rest.result.now c.in-Some-after_text-3.claim.now stop.rest.now stop.wanted
    c.after_blanks-rest.ensures.blanks c.in-Some-after_text-3.ensures s) c.number_after-in-Some-after_text-3.ensures.err
