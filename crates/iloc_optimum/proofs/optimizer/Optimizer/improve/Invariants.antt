use Rattle.iloc_optimum.proofs.Common.{◌≤◌, IsOptimumOf}
use Rattle.iloc_optimum.proofs.optimizer.Optimizer.improve.Given as goal

abbrev pub invariant-loop-limit : goal.invariant-loop-limit
invariant-loop-limit l = record {
  known : IsOptimumOf l.graph.rule l.graph.latencies l.block.ops l.optimum;
  above : l.optimum.bound ≤ l.limit;
}
