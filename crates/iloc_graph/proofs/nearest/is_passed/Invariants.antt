use Rattle.iloc_graph.proofs.Common.{◌≡◌, false, list_any, take, comes_after}
use Rattle.iloc_graph.proofs.nearest.is_passed.Given as goal

abbrev pub invariant-loop-k : goal.invariant-loop-k
invariant-loop-k l = list_any (λ k. comes_after l.delays.rule l.delays.ops.now k l.i) (take l.k-index l.later) ≡ false
