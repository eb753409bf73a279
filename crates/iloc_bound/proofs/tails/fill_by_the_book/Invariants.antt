use Rattle.iloc_bound.proofs.Common.{◌≡◌, IsTailed, loads_from}
use Rattle.iloc_bound.proofs.tails.fill_by_the_book.Given as goal

abbrev pub invariant-loop-j : goal.invariant-loop-j
invariant-loop-j l = record {
  tailed : IsTailed l.graph.latencies l.graph.ops l.found.items l.j l.j;
  loads : l.loads.items ≡ loads_from l.graph.latencies l.graph.ops l.j;
}
