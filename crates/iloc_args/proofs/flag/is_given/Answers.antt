use Rattle.iloc_args.proofs.Common.{arith, first_value-rows}
use Rattle.iloc_args.proofs.flag.is_given.Goals as goal

pub returns : goal.returns
returns c = grind (arith, first_value-rows)
