use Rattle.iloc_sched.proofs.Common.{counts_by, IsMarked, graph_of}
use Rattle.iloc_sched.proofs.ranking.descendants.mark.Given as goal

abbrev pub invariant-loop-x : goal.invariant-loop-x
invariant-loop-x l =
    IsMarked (counts_by l.tables.rule l.tables.ops.items) l.tables.latencies l.tables.ops.items (graph_of l.tables.edges) l.base l.masks.items l.x
