use Rattle.iloc_farm.proofs.Common.{sym, are_greedy}
use Rattle.iloc_farm.proofs.Headline.{headline}
use Rattle.iloc_farm.proofs.farm.schedules_of.Goals as goal

pub returns-clause-headline : goal.returns-clause-headline
returns-clause-headline c =
    let jobs = c.args.done.jobs in
    rw (sym c.into_parts-schedules.ensures.receipt)
    (headline jobs.heuristic jobs.latencies jobs.blocks _ c.into_parts-schedules.ensures.done)

pub returns-clause-greedy : goal.returns-clause-greedy
returns-clause-greedy c =
    let jobs = c.args.done.jobs in
    let done = c.into_parts-schedules.ensures.done.1.in_order in
    rw c.into_parts-schedules.ensures.answers
    (are_greedy jobs.heuristic jobs.latencies jobs.blocks _ done.long (λ i s at. (done.each i s at).1))
