use Rattle.iloc_facts.proofs.Common.{◌≡◌, ap, arith, issue_cycle}
use Rattle.iloc_rules.proofs.Basics.IssueCycles.{issue_cycle_within}
use Rattle.iloc_facts.specs.declared.lawfulness.Issue.{Issue}
use Rattle.iloc_facts.proofs.sides.Sides.due.Goals as goal

pub overflow_add-result : goal.overflow_add-result
overflow_add-result c =
    let sides = c.args.self.now in
    let rows = sides.schedule.now.rows in
    let cycle : c.in_ok-issue.issue.cycle ≡ issue_cycle rows c.args.k = ap (λ (i : Issue). i.cycle) c.in_ok-issue.ensures.is.is in
    omega (arith, cycle, issue_cycle_within rows c.args.k, sides.few, c.latency.ensures.within.1)
