use Rattle.std.proofs.Common.{arith}
use Rattle.iloc_sched.proofs.KeptEdges.SoundGraphs.{none_is_of_block}
use Rattle.iloc_sched.proofs.graph.Graph.refill.Goals as goal

pub invariant_of-self : goal.invariant_of-self
invariant_of-self c = grind (arith, none_is_of_block)
