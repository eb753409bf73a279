use Rattle.iloc_sched.proofs.Common.{◌≡◌, ◌+◌, length, take, In, AddsFrom, KeepsFrame, graph_of}
use Rattle.iloc_sched.proofs.edges.Edges.add_each.Given as goal

abbrev pub invariant-loop-i : goal.invariant-loop-i
invariant-loop-i l = record {
  adds : AddsFrom (In (take l.i-index l.from)) (graph_of l.fn.self) (graph_of l.self) l.to l.delay;
  count : length l.self.edges.items ≡ length l.fn.self.edges.items + l.i-index;
  frame : KeepsFrame l.fn.self l.self;
}
