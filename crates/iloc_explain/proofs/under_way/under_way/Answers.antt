use Rattle.iloc_explain.proofs.Common.{◌∙◌, arith, one_known, zero_known}
use Rattle.iloc_explain.proofs.UnderWay.{none_late, one_issued, row_late, zero_issued}
use Rattle.iloc_explain.proofs.under_way.under_way.Goals as goal

pub loop-issued-init : goal.loop-issued-init
loop-issued-init c =
    c.new-found.ensures.items ∙ none_late c.args.subject.now.measures.now.delays.latencies.now c.args.subject.now.schedule.now.ops c.args.subject.now.schedule.now.rows
    c.ops-ops.ensures.table c.args.cycle _ (omega (arith, c.saturating_sub-issued.ensures, c.requires))
    (omega (arith, c.saturating_sub-issued.ensures))

pub push_under_way-requires-clause-known : goal.push_under_way-requires-clause-known
push_under_way-requires-clause-known c =
    rw c.rows-rows.ensures.rows (zero_known _ _ c.loop-issued.issued c.ops-ops.ensures.table)

pub push_under_way-requires-clause-issued : goal.push_under_way-requires-clause-issued
push_under_way-requires-clause-issued c =
    rw c.rows-rows.ensures.rows (zero_issued c.args.subject.now.measures.now.delays.latencies.now c.args.subject.now.schedule.now.ops c.args.subject.now.schedule.now.rows
    c.ops-ops.ensures.table c.args.cycle c.loop-issued.issued (omega (arith, c.loop-issued-test.true, c.requires)))

pub push_under_way-requires-in-loop-issued-clause-known :
    goal.push_under_way-requires-in-loop-issued-clause-known
push_under_way-requires-in-loop-issued-clause-known c =
    rw c.rows-rows.ensures.rows (one_known _ _ c.loop-issued.issued c.ops-ops.ensures.table)

pub push_under_way-requires-in-loop-issued-clause-issued :
    goal.push_under_way-requires-in-loop-issued-clause-issued
push_under_way-requires-in-loop-issued-clause-issued c =
    rw c.rows-rows.ensures.rows (one_issued c.args.subject.now.measures.now.delays.latencies.now c.args.subject.now.schedule.now.ops c.args.subject.now.schedule.now.rows
    c.ops-ops.ensures.table c.args.cycle c.loop-issued.issued (omega (arith, c.loop-issued-test.true, c.requires)))

pub loop-issued-preserved : goal.loop-issued-preserved
loop-issued-preserved c =
    row_late c.args.subject.now.measures.now.delays.latencies.now c.args.subject.now.schedule.now.ops c.args.subject.now.schedule.now.rows c.ops-ops.ensures.table c.args.cycle
    c.loop-issued.issued c.loop-issued.found.items c.push_under_way.new.found.items _
    (omega (arith, c.loop-issued-test.true, c.requires)) c.loop-issued.invariant
    (rw c.rows-rows.ensures.rows at c.in_ok-push_under_way.ensures)
    (rw c.rows-rows.ensures.rows at c.in_ok-push_under_way-2.ensures)
