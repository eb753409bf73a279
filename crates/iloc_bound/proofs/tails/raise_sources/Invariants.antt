use Rattle.iloc_bound.proofs.Common.{ℕ, ◌+◌, ◌<◌, ◌≤◌, get_or, Edge, IsTailed}
use Rattle.iloc_bound.proofs.tails.raise_sources.Given as goal

abbrev pub invariant-loop-edge : goal.invariant-loop-edge
invariant-loop-edge l = record {
  tailed : IsTailed l.graph.latencies l.graph.ops l.found.items l.j (l.j + 1);
  kept : (k : ℕ) (other : Edge) → k < l.edge-index → (get_or l.edges k other).delay + get_or l.found.items l.j 0
      ≤ get_or l.found.items (get_or l.edges k other).from 0;
}
