use Rattle.iloc_timed.proofs.Arrivals.{table_numbered}
use Rattle.iloc_timed.proofs.timing.cycles.Goals as goal

pub cycles_of-requires-clause-numbered : goal.cycles_of-requires-clause-numbered
cycles_of-requires-clause-numbered c =
    rw (c.ops.ensures.ops, c.rows.ensures.rows) (table_numbered _ _ c.ops.ensures.table)
