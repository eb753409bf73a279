use Rattle.iloc_block_commands.proofs.Common.{option_copied, ap, ◌∙◌, shown, timed_outcome, Table, GraphOf, of_block, if_ok}
use Rattle.iloc_block_commands.proofs.Listers.{each_ranked, simulate_listed}
use Rattle.iloc_block_commands.proofs.simulate.SimulateListerLister.list.Goals as goal

pub feed-requires : goal.feed-requires
feed-requires c =
    each_ranked (option_copied c.args.job.now.own) c.args.job.now.block.now _ (ap (λ (g : GraphOf). g.ops) c.in_ok-refill.ensures.graph) c.args.job.now.each

pub returns-clause-listed : goal.returns-clause-listed
returns-clause-listed c =
    let request = c.args.request.now in
    let graph : GraphOf = c.refill.new.self in
    let made = c.in_ok-refill.ensures.graph ∙ ap (λ rule. of_block rule request.latencies c.args.job.now.block.now.ops) c.memory_rule.ensures in
    let fed = c.in_ok-feed.ensures.took in
    let s : Table = record { ops = graph.ops; rows = fed.0 } in
    let words = c.outputs.ensures graph.latencies graph.ops fed.0 (fed.1 (c.begin.ensures.ran graph.latencies graph.ops))
    ∙ (ap (λ (g : GraphOf). shown (timed_outcome g.latencies graph.ops fed.0 c.feed.new.taker.state.memory.first)) made
    ∙ ap (λ memory. shown (timed_outcome request.latencies graph.ops fed.0 memory))
    (c.in_ok-feed.ensures.kept ∙ (c.begin.ensures.first ∙ c.requires))) in
    if_ok _ c.push_outcome.result
    (λ _. simulate_listed request c.args.job.now.number c.args.job.now.block.now c.args.text.now.items _ _ c.as_ref-name.ensures.value (option_copied c.args.job.now.own) s
    (fed.2.schedule _ _ _ made).greedy _ words)
    c.push_outcome.ensures
