use Rattle.iloc_graph.proofs.Common.{◌≡◌, ◌++◌, take, flat_map, link}
use Rattle.iloc_graph.proofs.cluster.push_links.Given as goal

abbrev pub invariant-loop-i : goal.invariant-loop-i
invariant-loop-i l = l.text.items ≡ l.initial.text.items ++ flat_map (link l.number) (take l.i-index l.chain)
