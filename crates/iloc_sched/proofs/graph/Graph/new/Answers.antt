use Rattle.iloc_sched.proofs.KeptEdges.SoundGraphs.{none_is_of_block}
use Rattle.iloc_sched.proofs.graph.Graph.new.Goals as goal

pub invariant_of-result : goal.invariant_of-result
invariant_of-result c =
    let made = c.new-3.ensures in
    none_is_of_block c.new-3.result made.ops made.kinds made.own made.edges made.rule
