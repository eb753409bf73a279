use Rattle.iloc_graph.proofs.Common.{◌≡◌, ◌++◌, take, flat_map, edge_line}
use Rattle.iloc_graph.proofs.cluster.push_edges.Given as goal

abbrev pub invariant-loop-pair : goal.invariant-loop-pair
invariant-loop-pair l =
    l.text.items ≡ l.initial.text.items ++ flat_map (edge_line l.number) (take l.pair-index l.pairs)
