use Rattle.iloc_sched.proofs.Common.{counts_by, ArePrioritiesFrom, graph_of}
use Rattle.iloc_sched.proofs.ranking.priority.fill_chains.Given as goal

abbrev pub invariant-loop-x : goal.invariant-loop-x
invariant-loop-x l =
    ArePrioritiesFrom (counts_by l.tables.rule l.tables.ops.items) l.tables.latencies l.tables.ops.items (graph_of l.edges) l.found.items l.x
