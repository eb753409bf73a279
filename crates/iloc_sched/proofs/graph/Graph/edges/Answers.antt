use Rattle.iloc_sched.proofs.Common.{All, sym, subst, All-from_get_or, IsDelayPairWhere, counts_by, no_edge, Edge}
use Rattle.iloc_sched.proofs.KeptEdges.SoundGraphs.{ruled_graph}
use Rattle.iloc_sched.proofs.KeptEdges.EdgesInto.{waits_for_all}
use Rattle.iloc_sched.proofs.graph.Graph.edges.Goals as goal

pub returns-clause-each : goal.returns-clause-each
returns-clause-each c =
    let v = c.args.self.now in
    let t = c.self.inside.tables in
    let kept = ruled_graph t v c.self.invariant.sound c.self.view_is in
    subst (All (λ (edge : Edge). IsDelayPairWhere (counts_by v.rule v.ops) v.latencies v.ops edge.from edge.to edge.delay))
    (sym c.as_slice.ensures)
    (All-from_get_or (λ (edge : Edge). IsDelayPairWhere (counts_by v.rule v.ops) v.latencies v.ops edge.from edge.to edge.delay)
    t.edges.edges.items no_edge kept.sound)

pub returns-clause-all : goal.returns-clause-all
returns-clause-all c = λ cycle waits.
    let v = c.args.self.now in
    let t = c.self.inside.tables in
    waits_for_all (counts_by v.rule v.ops) v.latencies v.ops t.edges (ruled_graph t v c.self.invariant.sound c.self.view_is)
    cycle (rw c.as_slice.ensures at waits)
