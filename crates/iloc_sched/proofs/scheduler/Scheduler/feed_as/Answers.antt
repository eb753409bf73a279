use Rattle.iloc_sched.proofs.Common.{length, ap, ◌∙◌, on_ok_weaker, length-priorities_by_where, counts_by}
use Rattle.iloc_sched.proofs.Choice.Scheduled.{are_rows_as}
use Rattle.iloc_sched.proofs.scheduler.Scheduler.feed_as.Goals as goal

pub feed-fed-requires : goal.feed-fed-requires
feed-fed-requires g c =
    let graph = c.args.graph.now in
    ap length (c.deref.ensures.value ∙ c.in_ok-rank.ensures)
    ∙ length-priorities_by_where (counts_by graph.rule graph.ops) c.args.heuristic graph.latencies graph.ops

pub returns-clause-took : goal.returns-clause-took
returns-clause-took g c = on_ok_weaker c.feed-fed.result (λ fed. (
  fed.0,
  fed.1,
  are_rows_as c.args.graph.now c.args.heuristic _ fed.0 (c.deref.ensures.value ∙ c.in_ok-rank.ensures) fed.2,
)) c.feed-fed.ensures.took
