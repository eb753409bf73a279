use Rattle.iloc_sched.proofs.Common.{◌≡◌, ◌+◌, length, take, Address, CoversSources, Grows, KeepsFrame, graph_of}
use Rattle.iloc_sched.proofs.edges.Edges.add_sources.Given as goal

abbrev pub invariant-loop-i : goal.invariant-loop-i
invariant-loop-i l = record {
  grows : Grows Address l.next.latencies.now l.next.ops.now (graph_of l.fn.self) (graph_of l.self) l.next.j;
  covers : CoversSources l.next.latencies.now l.next.ops.now (graph_of l.self) l.next.j (take l.i-index l.sources);
  count : length l.self.edges.items ≡ length l.fn.self.edges.items + l.i-index;
  frame : KeepsFrame l.fn.self l.self;
}
