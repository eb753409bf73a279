use Rattle.iloc_graph.proofs.Common.{◌≡◌, [], ◌++◌, take, flat_map, path_line}
use Rattle.iloc_graph.proofs.cluster.push_marked.Given as goal

abbrev pub invariant-loop-i : goal.invariant-loop-i
invariant-loop-i l =
    l.text.items ≡ l.initial.text.items ++ flat_map (λ j. path_line l.number j []) (take l.i-index l.chain)
