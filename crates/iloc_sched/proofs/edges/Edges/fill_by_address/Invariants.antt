use Rattle.iloc_sched.proofs.Common.{◌≡◌, ◌+◌, ◌*◌, ◌≤◌, length, Address, IsLasts, HasCapacity, IsPartialGraph, graph_of}
use Rattle.iloc_addresses.specs.Steps.Dependences.{waiting}
use Rattle.iloc_sched.specs.Steps.Edges.ByAddress.{AreKnown}
use Rattle.iloc_sched.proofs.edges.Edges.fill_by_address.Given as goal

abbrev pub invariant-loop-j : goal.invariant-loop-j
invariant-loop-j l = record {
  partial : IsPartialGraph Address l.latencies l.ops (graph_of l.self) l.j;
  lasts : IsLasts l.ops l.lasts l.j;
  known : AreKnown l.ops l.earlier l.j;
  starts : length l.self.starts.items ≡ l.j + 1;
  capacity : HasCapacity l.self (length l.self.heads.items);
  count : length l.self.edges.items + waiting l.earlier.dependences ≤ 5 * l.j;
}
