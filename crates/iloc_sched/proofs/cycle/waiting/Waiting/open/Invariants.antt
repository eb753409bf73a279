use Rattle.iloc_sched.proofs.Common.{◌≡◌, ◌≤◌, vec_len, vec_capacity, IsOpening, graph_of}
use Rattle.iloc_sched.proofs.cycle.waiting.Waiting.open.Given as goal

abbrev pub invariant-loop-j : goal.invariant-loop-j
invariant-loop-j l = record {
  opening : IsOpening l.plan l.self l.j;
  short : l.short ≡ l.plan.short;
  place : l.place ≡ (graph_of l.plan.tables.now.edges).start l.j;
  size : vec_len l.self.states ≡ l.j;
  capacity : l.count ≤ vec_capacity l.self.states;
}
