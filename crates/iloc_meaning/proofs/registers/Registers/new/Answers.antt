use Rattle.std.proofs.lemmas.Grind.{common_steps}
use Rattle.std.proofs.Common.{arith}
use Rattle.iloc_meaning.proofs.RegisterValues.{value_of-alone}
use Rattle.iloc_meaning.proofs.registers.Registers.new.Goals as goal

pub returns : goal.returns
returns c = grind (arith, value_of-alone, common_steps)
