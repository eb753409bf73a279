use Rattle.iloc_explain.proofs.Common.{◌≡◌, take, nat_lt, filter, issue_order}
use Rattle.iloc_explain.specs.CycleLines.{paired}
use Rattle.iloc_explain.specs.ReadyList.{arrival}
use Rattle.iloc_explain.proofs.under_way.under_way.Given as goal

abbrev pub invariant-loop-issued : goal.invariant-loop-issued
invariant-loop-issued l =
    l.found.items ≡ paired (arrival l.subject.measures.now.delays.latencies.now l.subject.schedule.now.ops l.subject.schedule.now.rows)
    (filter (λ i. nat_lt l.cycle (arrival l.subject.measures.now.delays.latencies.now l.subject.schedule.now.ops l.subject.schedule.now.rows i)) (issue_order (take l.issued l.subject.schedule.now.rows)))
