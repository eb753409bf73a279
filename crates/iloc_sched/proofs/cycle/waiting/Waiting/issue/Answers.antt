use Rattle.iloc_sched.proofs.Common.{sym, refl, subst, arith, length-set, Walks, graph_of, progress_of, Waiting}
use Rattle.iloc_sched.proofs.Walking.WalkInTables.{started, places_as_before}
use Rattle.iloc_sched.proofs.cycle.waiting.Waiting.issue.Goals as goal

pub loop-at-init : goal.loop-at-init
loop-at-init c = grind (arith, length-set, places_as_before, started)

pub pass-at-requires-clause-sized : goal.pass-at-requires-clause-sized
pass-at-requires-clause-sized c = grind (arith, length-set)

pub pass-at-requires-clause-walks : goal.pass-at-requires-clause-walks
pass-at-requires-clause-walks c =
    let p = c.args.plan.now in
    let w = c.args.self.now in
    let v : Waiting = record { states = w.states; issued = c.and-self.result; calendar = w.calendar } in
    subst (Walks (graph_of p.tables.now.edges) (progress_of p.ranks.now v) c.args.cycle) (sym c.last_from-at.ensures)
    (started p.ranks.now p.tables.now.edges w v c.args.i c.args.cycle c.requires.plan.graph.is_graph c.requires.sized
    c.requires.waits c.requires.can c.and-self.ensures refl refl refl)
