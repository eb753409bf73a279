use Rattle.iloc_explain.proofs.Common.{◌≡◌, take, filter, ends_at, issue_order}
use Rattle.iloc_explain.proofs.waited.waited_until.Given as goal

abbrev pub invariant-loop-issued : goal.invariant-loop-issued
invariant-loop-issued l =
    l.waited.items ≡ filter (ends_at l.subject.measures.now.delays.rule l.subject.measures.now.delays.latencies.now l.subject.schedule.now.ops l.subject.schedule.now.rows l.j l.cycle) (issue_order (take l.issued l.subject.schedule.now.rows))
