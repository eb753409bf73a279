use Rattle.iloc_sched.proofs.Common.{length, sym, ap, ◌∙◌, subst, IfOk-weaker, length_where, IsGreedyWhere, priorities_where, counts_by, GraphOf}
use Rattle.iloc_sched.proofs.Choice.Scheduled.{the_schedule}
use Rattle.iloc_sched.proofs.scheduler.schedule_by.Goals as goal

pub lend-requires : goal.lend-requires
lend-requires c =
    let g = c.refill.new.self in
    ap length (c.deref.ensures.value ∙ c.in_ok-chains.ensures) ∙ length_where (counts_by g.rule g.ops) g.latencies g.ops

pub returns : goal.returns
returns c =
    let rule = c.args.rule in
    let lat = c.args.latencies.now in
    let block = c.args.block.now.ops in
    IfOk-weaker c.lend.result _ _
    (λ s lent.
    let greedy = (lent rule lat block c.in_ok-refill.ensures.graph).greedy in
    the_schedule rule (λ ops. priorities_where (counts_by rule ops) lat ops) lat block s
    (subst (λ ranks. IsGreedyWhere (counts_by rule s.ops) ranks lat block s.ops s.rows)
    (c.deref.ensures.value ∙ (c.in_ok-chains.ensures
    ∙ (ap (λ (g : GraphOf). priorities_where (counts_by g.rule g.ops) g.latencies g.ops) c.in_ok-refill.ensures.graph
    ∙ ap (λ ops. priorities_where (counts_by rule ops) lat ops) (sym greedy.lawful.names)))) greedy))
    c.lend.ensures
