use Rattle.iloc_explain.specs.Steps.Links.{IsChainTo}
use Rattle.iloc_explain.proofs.chain.longest_chain.Given as goal

abbrev pub invariant-loop-j : goal.invariant-loop-j
invariant-loop-j l = IsChainTo l.delays.rule l.delays.latencies.now l.delays.ops.now l.first l.last l.j l.chain.items
