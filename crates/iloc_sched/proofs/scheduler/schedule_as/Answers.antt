use Rattle.std.proofs.lemmas.Result.{IfOk-weaker}
use Rattle.iloc_sched.proofs.Common.{Book}
use Rattle.iloc_sched.proofs.scheduler.schedule_as.Goals as goal

pub returns : goal.returns
returns c = IfOk-weaker c.lend_as.result _ _ (λ s lent. lent Book c.args.latencies.now c.args.block.now.ops c.in_ok-refill.ensures.graph)
    c.lend_as.ensures
