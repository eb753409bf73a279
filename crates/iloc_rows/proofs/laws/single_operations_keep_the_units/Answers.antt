use Rattle.iloc_rows.proofs.Common.{refl, Nop, SingleOperationsKeepTheUnits}
use Rattle.iloc_rows.proofs.laws.single_operations_keep_the_units.Goals as goal

-- The row of a single operation keeps the rules of the units.
single_keeps_units : SingleOperationsKeepTheUnits
single_keeps_units Nop = (refl, tt)
single_keeps_units _ = (refl, tt)

pub returns : goal.returns
returns c = single_keeps_units
