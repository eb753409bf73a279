use Rattle.iloc_sched.proofs.Common.{sym, ◌∙◌, subst, In, AddsFrom, graph_of}
use Rattle.iloc_sched.proofs.KeptEdges.AddedEdges.{memory_load, memory_output, memory_store}
use Rattle.iloc_sched.proofs.edges.Edges.add_memory.Goals as goal

pub returns-in-Load-clause-grows : goal.returns-in-Load-clause-grows
returns-in-Load-clause-grows c =
    (memory_load _ _ _ _ c.requires.next.known c.requires.next.there _ (graph_of c.add_from.new.self)
    c.requires.partial (sym c.requires.next.kind_is ∙ c.in-Load.is) c.add_from.ensures.adds).0

pub returns-in-Load-clause-covers : goal.returns-in-Load-clause-covers
returns-in-Load-clause-covers c =
    (memory_load _ _ _ _ c.requires.next.known c.requires.next.there _ (graph_of c.add_from.new.self)
    c.requires.partial (sym c.requires.next.kind_is ∙ c.in-Load.is) c.add_from.ensures.adds).1

pub returns-in-Output-clause-grows : goal.returns-in-Output-clause-grows
returns-in-Output-clause-grows c =
    (memory_output _ _ _ _ c.requires.next.known c.requires.next.there _ (graph_of c.add_from-in-Output.new.self)
    (graph_of c.add_from-in-Output-2.new.self) c.requires.partial
    (sym c.requires.next.kind_is ∙ c.in-Output.is)
    c.add_from-in-Output.ensures.adds c.add_from-in-Output-2.ensures.adds).0

pub returns-in-Output-clause-covers : goal.returns-in-Output-clause-covers
returns-in-Output-clause-covers c =
    (memory_output _ _ _ _ c.requires.next.known c.requires.next.there _ (graph_of c.add_from-in-Output.new.self)
    (graph_of c.add_from-in-Output-2.new.self) c.requires.partial
    (sym c.requires.next.kind_is ∙ c.in-Output.is)
    c.add_from-in-Output.ensures.adds c.add_from-in-Output-2.ensures.adds).1

pub returns-in-Store-clause-grows : goal.returns-in-Store-clause-grows
returns-in-Store-clause-grows c =
    (memory_store _ _ _ _ c.requires.next.known c.requires.next.there _ (graph_of c.add_from-in-Store.new.self)
    (graph_of c.add_from-in-Store-2.new.self) (graph_of c.add_each.new.self) c.requires.partial
    (sym c.requires.next.kind_is ∙ c.in-Store.is)
    c.add_from-in-Store.ensures.adds c.add_from-in-Store-2.ensures.adds
    (subst (λ xs. AddsFrom (In xs) (graph_of c.add_from-in-Store-2.new.self) (graph_of c.add_each.new.self) c.args.next.now.j
    1) c.deref.ensures.value c.add_each.ensures.adds)).0

pub returns-in-Store-clause-covers : goal.returns-in-Store-clause-covers
returns-in-Store-clause-covers c =
    (memory_store _ _ _ _ c.requires.next.known c.requires.next.there _ (graph_of c.add_from-in-Store.new.self)
    (graph_of c.add_from-in-Store-2.new.self) (graph_of c.add_each.new.self) c.requires.partial
    (sym c.requires.next.kind_is ∙ c.in-Store.is)
    c.add_from-in-Store.ensures.adds c.add_from-in-Store-2.ensures.adds
    (subst (λ xs. AddsFrom (In xs) (graph_of c.add_from-in-Store-2.new.self) (graph_of c.add_each.new.self) c.args.next.now.j
    1) c.deref.ensures.value c.add_each.ensures.adds)).1
