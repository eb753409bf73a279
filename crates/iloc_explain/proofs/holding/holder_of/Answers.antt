use Rattle.iloc_explain.proofs.Common.{◌-◌, one_known, zero_known}
use Rattle.iloc_explain.proofs.holding.holder_of.Goals as goal

pub keeper-requires-clause-zero : goal.keeper-requires-clause-zero
keeper-requires-clause-zero c =
    rw (c.rows.ensures.rows, c.ops.ensures.ops) (zero_known _ _ (c.args.cycle - 1) c.ops.ensures.table)

pub keeper-requires-clause-one : goal.keeper-requires-clause-one
keeper-requires-clause-one c =
    rw (c.rows.ensures.rows, c.ops.ensures.ops) (one_known _ _ (c.args.cycle - 1) c.ops.ensures.table)
