use Rattle.iloc_graph.proofs.Common.{◌≡◌, ◌+◌, ◌++◌, length, drop, without_nops, node_lines}
use Rattle.iloc_graph.proofs.cluster.push_operations.Given as goal

abbrev pub invariant-loop-op : goal.invariant-loop-op
invariant-loop-op l =
    (l.text.items ++ node_lines l.number l.i (without_nops (drop l.op-index l.block)) (drop l.i l.priorities)
    ≡ l.initial.text.items ++ node_lines l.number 0 (without_nops l.block) l.priorities)
    × (l.i + length (without_nops (drop l.op-index l.block)) ≡ length l.priorities)
