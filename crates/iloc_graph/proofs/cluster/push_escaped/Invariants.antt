use Rattle.iloc_graph.proofs.Common.{◌≡◌, ◌++◌, take, flat_map, escaped_byte}
use Rattle.iloc_graph.proofs.cluster.push_escaped.Given as goal

abbrev pub invariant-loop-byte : goal.invariant-loop-byte
invariant-loop-byte l =
    l.text.items ≡ l.initial.text.items ++ flat_map escaped_byte (take l.byte-index l.name)
