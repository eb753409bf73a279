use Rattle.iloc_graph.proofs.Common.{◌≡◌, flat_map, range_with_len, nearest_to}
use Rattle.iloc_graph.proofs.nearest.nearest_pairs.Given as goal

abbrev pub invariant-loop-second : goal.invariant-loop-second
invariant-loop-second l =
    l.pairs.items ≡ flat_map (nearest_to l.graph.rule l.graph.latencies l.graph.ops) (range_with_len 0 l.second)
