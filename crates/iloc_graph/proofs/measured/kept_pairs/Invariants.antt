use Rattle.std.specs.Prelude.{◌≡◌, map, take}
use Rattle.iloc_graph.proofs.KeptEdges.{kept_pair}
use Rattle.iloc_graph.proofs.measured.kept_pairs.Given as goal

abbrev pub invariant-loop-edge : goal.invariant-loop-edge
invariant-loop-edge l = l.pairs.items ≡ map kept_pair (take l.edge-index l.edge-items)
