use Rattle.std.proofs.lemmas.Grind.{common_steps}
use Rattle.std.proofs.Common.{arith}
use Rattle.iloc_meaning.proofs.RegisterValues.{value_of-table, value_of-others}
use Rattle.iloc_meaning.proofs.registers.Registers.get.Goals as goal

pub returns-in-Some : goal.returns-in-Some
returns-in-Some c = grind (arith, value_of-table, common_steps)

pub returns-in-None : goal.returns-in-None
returns-in-None c = grind (arith, value_of-others, common_steps)
