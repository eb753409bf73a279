use Rattle.iloc_graph.proofs.Common.{◌≡◌, ◌++◌, drop, map, pair_of, unpassed}
use Rattle.iloc_graph.proofs.nearest.push_pairs.Given as goal

abbrev pub invariant-loop-place : goal.invariant-loop-place
invariant-loop-place l =
    l.pairs.items ++ map (pair_of l.delays.rule l.delays.latencies.now l.delays.ops.now l.second) (unpassed l.delays.rule l.delays.ops.now (drop l.place l.near))
    ≡ l.initial.pairs.items ++ map (pair_of l.delays.rule l.delays.latencies.now l.delays.ops.now l.second) (unpassed l.delays.rule l.delays.ops.now l.near)
