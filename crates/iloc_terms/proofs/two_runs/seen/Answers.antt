use Rattle.std.proofs.Common.{true, false}
use Rattle.iloc_terms.proofs.Outcomes.{alike_on_all}
use Rattle.iloc_terms.proofs.two_runs.seen.Goals as goal

pub returns-then-branch : goal.returns-then-branch
returns-then-branch c =
    alike_on_all false c.args.latencies.now c.args.one.now c.args.other.now c.in_ok-runs.runs.table c.in_ok-runs.runs.one
    c.in_ok-runs.runs.other c.in_ok-runs.ensures (c.in_ok-agree.ensures c.if-branch.true)

pub returns-then-branch-2 : goal.returns-then-branch-2
returns-then-branch-2 c = (
  c.if-outputs_alone.true,
  alike_on_all true c.args.latencies.now c.args.one.now c.args.other.now c.in_ok-runs.runs.table c.in_ok-runs.runs.one
      c.in_ok-runs.runs.other c.in_ok-runs.ensures (c.in_ok-agree-2.ensures c.if-branch-2.true),
)
