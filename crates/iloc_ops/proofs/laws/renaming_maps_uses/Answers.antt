use Rattle.iloc_ops.proofs.Renaming.{used-with_registers}
use Rattle.iloc_ops.proofs.laws.renaming_maps_uses.Goals as goal

pub returns : goal.returns
returns c = used-with_registers
