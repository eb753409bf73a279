use Rattle.iloc_block_commands.proofs.Common.{option_copied, ap, ◌∙◌, Table, GraphOf, of_block, memory_rule, ranks_under}
use Rattle.iloc_timed.specs.Cycles.{cycles}
use Rattle.iloc_sched.proofs.Counted.{counted}
use Rattle.iloc_block_commands.proofs.Listers.{each_ranked, is_count_under}
use Rattle.iloc_block_commands.proofs.counts.CountListerFarmedLister.answer.Goals as goal

pub feed-requires : goal.feed-requires
feed-requires c =
    each_ranked (option_copied c.args.job.now.own) c.args.job.now.block.now _ (ap (λ (g : GraphOf). g.ops) c.in_ok-refill.ensures.graph) c.args.job.now.each

pub returns : goal.returns
returns c =
    let request = c.args.request.now in
    let graph : GraphOf = c.refill.new.self in
    let made = c.in_ok-refill.ensures.graph ∙ ap (λ rule. of_block rule request.latencies c.args.job.now.block.now.ops) c.memory_rule.ensures in
    let fed = c.in_ok-feed.ensures.took in
    let s : Table = record { ops = graph.ops; rows = fed.0 } in
    is_count_under (memory_rule request)
    (ranks_under (memory_rule request) request.priority request.latencies (option_copied c.args.job.now.own)) request.latencies c.args.job.now.block.now
    s (fed.2.schedule _ _ _ made).greedy _
    (counted graph.latencies graph.ops fed.0 _ fed.2.table fed.1
    ∙ ap (λ (g : GraphOf). cycles g.latencies graph.ops fed.0) made)
