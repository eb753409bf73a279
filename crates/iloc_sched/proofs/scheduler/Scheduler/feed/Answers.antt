use Rattle.iloc_sched.proofs.Common.{List, sym, subst, on_ok_weaker, Row, GraphOf}
use Rattle.iloc_sched.specs.Scheduled.{AreRowsBy}
use Rattle.iloc_sched.proofs.Choice.Scheduled.{are_rows}
use Rattle.iloc_sched.proofs.scheduler.Scheduler.feed.Goals as goal

pub returns-clause-took : goal.returns-clause-took
returns-clause-took g c =
    let p = c.tables-tables.result.now in
    let tables : GraphOf = record { rule = p.rule; ops = p.ops.items; latencies = p.latencies } in
    on_ok_weaker c.fill_rows.result (λ filled.
    subst (λ (v : GraphOf). (rows : List Row) × g.T.TakeRows.took v.latencies v.ops c.args.taker.now rows c.fill_rows.new.taker
    × AreRowsBy (λ _ _ _. c.args.ranks.now) v rows) (sym c.tables-tables.ensures.graph)
    (filled.0, filled.1, are_rows tables c.args.ranks.now filled.0 c.tables-tables.ensures.named filled.2 filled.3)) c.fill_rows.ensures.took
