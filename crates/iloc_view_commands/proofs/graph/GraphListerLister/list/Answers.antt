use Rattle.iloc_view_commands.proofs.Common.{◌++◌, refl, ap, ◌∙◌, subst, GraphOf, of_block, IsCluster, if_ok}
use Rattle.iloc_view_commands.proofs.Listers.{graph_listed}
use Rattle.iloc_view_commands.proofs.graph.GraphListerLister.list.Goals as goal

pub push_cluster-requires : goal.push_cluster-requires
push_cluster-requires c = ap (λ (g : GraphOf). g.ops) c.in_ok-refill.ensures.graph

pub returns-clause-listed : goal.returns-clause-listed
returns-clause-listed c =
    let request = c.args.request.now in
    let block = c.args.job.now.block.now in
    let filled = c.in_ok-refill.ensures.graph
    ∙ ap (λ rule. of_block rule request.latencies block.ops) c.memory_rule.ensures in
    if_ok _ c.push_cluster.result
    (λ _ drawn.
    graph_listed request c.args.job.now.number block c.args.text.now.items _ _ refl drawn.0
    (subst (λ (g : GraphOf). IsCluster g.rule g.latencies c.args.job.now.number block.name block.ops drawn.0) filled drawn.1)
    (drawn.2 ∙ ap (λ xs. xs ++ drawn.0) c.in_ok-push_opening_at.ensures))
    c.push_cluster.ensures
