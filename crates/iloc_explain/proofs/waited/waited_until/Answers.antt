use Rattle.iloc_explain.proofs.Common.{◌≡◌, min, length, ap, ◌∙◌, arith, one_known, zero_known}
use Rattle.iloc_explain.proofs.Waits.{none_before, row_waited, all_waited}
use Rattle.iloc_explain.proofs.waited.waited_until.Goals as goal

pub loop-issued-init : goal.loop-issued-init
loop-issued-init c =
    let end : c.min-end.result ≡ min c.args.cycle (length c.args.subject.now.schedule.now.rows) =
    c.min-end.ensures ∙ ap (λ rows. min c.args.cycle (length rows)) c.rows-rows.ensures.rows in
    c.new-waited.ensures.items ∙ none_before c.args.subject.now.measures.now.delays.rule c.args.subject.now.measures.now.delays.latencies.now c.args.subject.now.schedule.now.ops c.args.subject.now.schedule.now.rows
    c.ops-ops.ensures.table c.args.j c.requires c.args.cycle _ (omega arith) (omega arith)

pub push_waited-requires-clause-known : goal.push_waited-requires-clause-known
push_waited-requires-clause-known c =
    rw (c.rows-rows.ensures.rows, c.args.subject.now.measured) (zero_known _ _ c.loop-issued.issued c.ops-ops.ensures.table)

pub push_waited-requires-in-loop-issued-clause-known :
    goal.push_waited-requires-in-loop-issued-clause-known
push_waited-requires-in-loop-issued-clause-known c =
    rw (c.rows-rows.ensures.rows, c.args.subject.now.measured) (one_known _ _ c.loop-issued.issued c.ops-ops.ensures.table)

pub loop-issued-preserved : goal.loop-issued-preserved
loop-issued-preserved c =
    let end : c.min-end.result ≡ min c.args.cycle (length c.args.subject.now.schedule.now.rows) =
    c.min-end.ensures ∙ ap (λ rows. min c.args.cycle (length rows)) c.rows-rows.ensures.rows in
    row_waited c.args.subject.now.measures.now.delays.rule c.args.subject.now.measures.now.delays.latencies.now c.args.subject.now.schedule.now.ops c.args.subject.now.schedule.now.rows c.ops-ops.ensures.table c.args.j
    c.requires c.args.cycle c.loop-issued.issued c.loop-issued.waited.items c.push_waited.new.waited.items _ (omega arith)
    (omega arith) c.loop-issued.invariant
    (rw (c.rows-rows.ensures.rows, c.args.subject.now.measured) at c.in_ok-push_waited.ensures)
    (rw (c.rows-rows.ensures.rows, c.args.subject.now.measured) at c.in_ok-push_waited-2.ensures)

pub returns : goal.returns
returns c =
    let end : c.min-end.result ≡ min c.args.cycle (length c.args.subject.now.schedule.now.rows) =
    c.min-end.ensures ∙ ap (λ rows. min c.args.cycle (length rows)) c.rows-rows.ensures.rows in
    c.loop-issued.invariant ∙ all_waited c.args.subject.now.measures.now.delays.rule c.args.subject.now.measures.now.delays.latencies.now c.args.subject.now.schedule.now.ops c.args.subject.now.schedule.now.rows
    c.ops-ops.ensures.table c.args.j c.requires c.args.cycle c.loop-issued.issued (omega arith)
