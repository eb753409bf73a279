use Rattle.iloc_reasons.proofs.Common.{◌≡◌, Some, rules, defined}
use Rattle.iloc_reasons.proofs.Claims.{brings_fact}
use Rattle.iloc_reasons.proofs.claim.brings.Goals as goal

pub returns-then-issue-arrives : goal.returns-then-issue-arrives
returns-then-issue-arrives c =
    let defines : defined c.in_ok-it.it.op ≡ Some c.in_ok-register.register = search rules in
    brings_fact c.args.sides.now.latencies.now c.args.sides.now.block.items c.args.sides.now.schedule.now.ops
    c.args.sides.now.schedule.now.rows c.args.k c.args.late c.in_ok-issue.issue c.in_ok-it.it c.in_ok-register.register c.args.place
    c.in_ok-arrives.arrives c.in_ok-issue.ensures.is c.in_ok-it.ensures.is c.in_ok-arrives.ensures.is c.if-late-k.true
    c.in_ok-register.ensures defines c.if-it-issue.true c.if-issue-arrives.true
