use Rattle.iloc_graph.proofs.Common.{map, take_all, sym, ap, ◌∙◌, subst}
use Rattle.iloc_explain.specs.Measures.{ImplyAll}
use Rattle.iloc_graph.proofs.KeptEdges.{edges_imply, kept_pair}
use Rattle.iloc_graph.proofs.measured.kept_pairs.Goals as goal

pub returns : goal.returns
returns c =
    let edges = c.edges-edge-items.result.now in
    let graph = c.args.graph.now in
    let listed = c.loop-edge.invariant ∙ ap (map kept_pair) (take_all _ _ c.loop-edge-test.false) in
    subst (ImplyAll graph.rule graph.latencies graph.ops) (sym listed)
    (edges_imply graph.rule graph.latencies graph.ops edges c.edges-edge-items.ensures.each c.edges-edge-items.ensures.all)
