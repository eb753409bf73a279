use Rattle.iloc_sched.proofs.Common.{sym, refl, ap, ◌∙◌, arith, graph_of}
use Rattle.iloc_sched.specs.Steps.Renaming.Registers.{listed}
use Rattle.iloc_sched.proofs.KeptEdges.AddedEdges.{one_covered, two_covered}
use Rattle.iloc_sched.proofs.KeptEdges.PartialGraphs.{grows_then}
use Rattle.iloc_sched.proofs.edges.Edges.add_uses.Goals as goal

pub add_use-requires-in-Two-2-clause-used : goal.add_use-requires-in-Two-2-clause-used
add_use-requires-in-Two-2-clause-used c =
    rw (← (ap listed (sym c.in-Two.is) ∙ c.requires.next.uses_are)) (1, omega arith, refl)

pub returns-in-One-clause-covers : goal.returns-in-One-clause-covers
returns-in-One-clause-covers c =
    one_covered c.args.next.now.latencies.now c.args.next.now.ops.now (graph_of c.add_use.new.self) c.args.next.now.j c.in-One.register
    (ap listed (sym c.in-One.is) ∙ c.requires.next.uses_are) c.add_use.ensures.covers

pub returns-in-Two-clause-covers : goal.returns-in-Two-clause-covers
returns-in-Two-clause-covers c =
    two_covered c.requires.partial.0 c.args.next.now.latencies.now c.args.next.now.ops.now (graph_of c.add_use-in-Two.new.self)
    (graph_of c.add_use-in-Two-2.new.self) c.args.next.now.j c.in-Two.left c.in-Two.right
    (ap listed (sym c.in-Two.is) ∙ c.requires.next.uses_are)
    (c.add_use-in-Two-2.ensures.grows c.requires.partial.0
    (c.add_use-in-Two.ensures.grows c.requires.partial.0 c.requires.partial.1).partial) c.add_use-in-Two.ensures.covers c.add_use-in-Two-2.ensures.covers

pub add_use-requires-in-Two-2-clause-partial : goal.add_use-requires-in-Two-2-clause-partial
add_use-requires-in-Two-2-clause-partial c =
    (c.requires.partial.0, (c.add_use-in-Two.ensures.grows c.requires.partial.0 c.requires.partial.1).partial)

pub returns-in-Two-clause-grows : goal.returns-in-Two-clause-grows
returns-in-Two-clause-grows c rule partial =
    let first = c.add_use-in-Two.ensures.grows rule partial in
    grows_then rule _ _ _ (graph_of c.add_use-in-Two.new.self) _ _ first
    (c.add_use-in-Two-2.ensures.grows rule first.partial)
