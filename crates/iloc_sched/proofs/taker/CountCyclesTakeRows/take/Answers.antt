use Rattle.iloc_sched.proofs.Common.{max, [], ◌∷◌, ◌++◌, sym, ap, ◌∙◌, subst}
use Rattle.iloc_sched.specs.Counted.{IsLatest, arrival}
use Rattle.iloc_sched.proofs.Counted.{arrival_of, arrival_short, latest_more}
use Rattle.iloc_sched.proofs.taker.CountCyclesTakeRows.take.Goals as goal

pub arrival-zero-requires-clause-early : goal.arrival-zero-requires-clause-early
arrival-zero-requires-clause-early c =
    arrival_short c.requires.own.0 c.args._ops.now c.args.own.now c.requires.own.1 c.args.cycle c.args.row.zero c.requires.early c.requires.zero

pub arrival-one-requires-clause-early : goal.arrival-one-requires-clause-early
arrival-one-requires-clause-early c =
    arrival_short c.requires.own.0 c.args._ops.now c.args.own.now c.requires.own.1 c.args.cycle c.args.row.one c.requires.early c.requires.one

pub returns-clause-took : goal.returns-clause-took
returns-clause-took c = λ lat start rows same so_far count.
    let zero = c.arrival-zero.ensures ∙ arrival_of lat c.args._ops.now c.args.own.now same c.args.cycle c.args.row.zero c.requires.zero in
    let one = c.arrival-one.ensures ∙ arrival_of lat c.args._ops.now c.args.own.now same c.args.cycle c.args.row.one c.requires.one in
    subst (λ n. IsLatest lat c.args._ops.now start.cycles (rows ++ c.args.row ∷ []) n)
    (sym (c.max-self.ensures ∙ ap (λ n. max n c.arrival-one.result) c.max.ensures))
    (latest_more lat c.args._ops.now start.cycles rows c.args.row c.args.self.now.cycles c.arrival-zero.result c.arrival-one.result so_far
    (zero ∙ ap (λ n. arrival lat c.args._ops.now n c.args.row.zero) (sym count))
    (one ∙ ap (λ n. arrival lat c.args._ops.now n c.args.row.one) (sym count)))
