use Rattle.iloc_optimum.proofs.Common.{◌≡◌, ℕ, ◌<◌, length, get_or, slice_index, heuristics, Chain, IsCountOf, cycles_of}
use Rattle.iloc_optimum.proofs.Improvements.{IsBestOf}
use Rattle.iloc_optimum.proofs.optimizer.Optimizer.orders.Given as goal

abbrev pub invariant-loop-place : goal.invariant-loop-place
invariant-loop-place l = record {
  size : length l.cycles ≡ length heuristics;
  counts : (i : ℕ) → i < l.place
      → IsCountOf l.graph.rule (get_or heuristics i Chain) l.graph.latencies l.block.ops (slice_index l.cycles i);
  fewest : l.fewest ≡ cycles_of l.graph.latencies l.best;
  best : IsBestOf l.graph.rule l.graph.latencies l.block.ops heuristics l.place l.best;
}
