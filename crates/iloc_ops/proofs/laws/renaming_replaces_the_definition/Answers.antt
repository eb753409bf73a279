use Rattle.iloc_ops.proofs.Renaming.{defined-with_registers}
use Rattle.iloc_ops.proofs.laws.renaming_replaces_the_definition.Goals as goal

pub returns : goal.returns
returns c = defined-with_registers
