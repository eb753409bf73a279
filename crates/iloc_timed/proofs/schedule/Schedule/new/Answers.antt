use Rattle.std.proofs.lemmas.Grind.{common_steps}
use Rattle.std.proofs.Common.{arith}
use Rattle.iloc_timed.specs.Rows.{IsTable}
use Rattle.iloc_timed.proofs.Standing.{table_from, sound_rows_in_range}
use Rattle.iloc_timed.proofs.schedule.Schedule.new.Goals as goal

pub first_not_once-requires : goal.first_not_once-requires
first_not_once-requires c = grind (arith, sound_rows_in_range, common_steps)

tested : (c : goal.In_default-2) → IsTable c.args.ops.items c.args.rows.items
tested c = grind (arith, table_from)

pub invariant_of-result : goal.invariant_of-result
invariant_of-result c = (tested c, c.requires)

pub returns-clause-table : goal.returns-clause-table
returns-clause-table c = tested c
