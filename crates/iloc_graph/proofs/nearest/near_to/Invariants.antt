use Rattle.iloc_graph.proofs.Common.{◌≡◌, map, take, Edge}
use Rattle.iloc_graph.proofs.nearest.near_to.Given as goal

abbrev pub invariant-loop-edge : goal.invariant-loop-edge
invariant-loop-edge l = l.found.items ≡ map (λ (e : Edge). e.from) (take l.edge-index l.edge-items)
