use Rattle.iloc_view_commands.proofs.Common.{length, option_copied, ap, ◌∙◌, GraphOf, of_block, memory_rule}
use Rattle.iloc_view_commands.proofs.Listers.{each_ranked, trace_listed}
use Rattle.iloc_view_commands.proofs.trace.TraceListerLister.list.Goals as goal

pub lend-requires : goal.lend-requires
lend-requires c =
    ap length c.deref.ensures.value
    ∙ each_ranked c.args.request.now.priority (option_copied c.args.job.now.own) c.args.job.now.block.now _ _
    (ap (λ (g : GraphOf). g.ops) c.in_ok-refill.ensures.graph) c.args.job.now.each c.in_ok-ranks.ensures

pub returns-clause-listed : goal.returns-clause-listed
returns-clause-listed c =
    let request = c.args.request.now in
    let block = c.args.job.now.block.now in
    let s = c.in_ok-schedule.schedule in
    let filled = c.in_ok-refill.ensures.graph ∙ ap (λ rule. of_block rule request.latencies block.ops) c.memory_rule.ensures in
    trace_listed request c.args.job.now.number block c.args.text.now.items _ _ c.as_ref.ensures.value (option_copied c.args.job.now.own) s _
    c.in_ok-ranks.ranks.items filled c.in_ok-ranks.ensures
    (rw c.deref.ensures.value at (c.in_ok-schedule.ensures (memory_rule request) request.latencies block.ops filled).greedy) _ _ _ c.in_ok-push_block_head.ensures
    c.in_ok-push.ensures.items c.requires c.in_ok-push_trace.ensures.lists
