use Rattle.iloc_block_commands.proofs.Common.{ap, ◌∙◌, subst, GraphOf, of_block, IsOptimumOf, memory_rule}
use Rattle.iloc_block_commands.proofs.Listers.{optimum_is}
use Rattle.iloc_block_commands.proofs.optimize.OptimizeListerFarmedLister.answer.Goals as goal

pub optimize-requires : goal.optimize-requires
optimize-requires c = ap (λ (g : GraphOf). g.ops) c.in_ok-refill.ensures.graph

pub returns : goal.returns
returns c =
    let block = c.args.job.now.block.now in
    let request = c.args.request.now in
    let graph = c.in_ok-refill.ensures.graph ∙ ap (λ rule. of_block rule request.latencies block.ops) c.memory_rule.ensures in
    let found = subst (λ (g : GraphOf). IsOptimumOf g.rule g.latencies block.ops c.in_ok-optimum.optimum) graph
    c.in_ok-optimum.ensures in
    optimum_is (memory_rule request) request.latencies c.args.job.now.number block c.in_ok-optimum.optimum found c.in_ok-entry.entry.text
    c.in_ok-entry.entry.cycles c.in_ok-entry.ensures.text c.in_ok-entry.ensures.cycles
