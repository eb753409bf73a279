use Rattle.iloc_sched.specs.Steps.Views.{graph_of}
use Rattle.iloc_sched.proofs.KeptEdges.AddedEdges.{adds_some}
use Rattle.iloc_sched.proofs.edges.Edges.add_from.Goals as goal

pub returns-in-Some-clause-adds : goal.returns-in-Some-clause-adds
returns-in-Some-clause-adds c =
    adds_some c.args.from c.in-Some.i (graph_of c.args.self.now) (graph_of c.add.new.self) c.args.to c.args.delay
    c.in-Some.is c.add.ensures.adds
