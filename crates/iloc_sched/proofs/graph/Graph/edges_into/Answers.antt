use Rattle.iloc_sched.proofs.KeptEdges.SoundGraphs.{near_graph}
use Rattle.iloc_sched.proofs.KeptEdges.EdgesInto.{all_into, near_into}
use Rattle.iloc_sched.proofs.graph.Graph.edges_into.Goals as goal

pub returns-clause-near : goal.returns-clause-near
returns-clause-near c =
    let v = c.args.self.now in
    let t = c.self.inside.tables in
    rw (c.as_slice.ensures, c.start.ensures, c.start-2.ensures)
    (near_into v.rule v.latencies v.ops t.edges (near_graph t v c.self.invariant.sound c.self.view_is) c.args.j c.requires)

pub returns-clause-all : goal.returns-clause-all
returns-clause-all c =
    let v = c.args.self.now in
    let t = c.self.inside.tables in
    rw (c.as_slice.ensures, c.start.ensures, c.start-2.ensures)
    (all_into v.rule v.latencies v.ops t.edges (near_graph t v c.self.invariant.sound c.self.view_is) c.args.j c.requires)
