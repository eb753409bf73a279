use Rattle.iloc_sched.proofs.Common.{◌++◌, ap, ◌∙◌, IfOk-weaker}
use Rattle.iloc_sched.proofs.Choice.Scheduled.{lent}
use Rattle.iloc_sched.proofs.scheduler.Scheduler.lend.Goals as goal

pub returns : goal.returns
returns c =
    let fed = c.in_ok-feed.ensures.took in
    IfOk-weaker c.schedule_in.result _ _
    (λ s is. lent (λ _ _ _. c.args.ranks.now) c.args.graph.now fed.0 c.feed.new.taker.items s
    (fed.1 ∙ ap (λ xs. xs ++ fed.0) c.no_rows-rows.ensures) fed.2 is)
    c.schedule_in.ensures
