use Rattle.iloc_meaning.proofs.Effects.{effect-with_registers}
use Rattle.iloc_meaning.proofs.laws.renaming_keeps_effects.Goals as goal

pub returns : goal.returns
returns c = effect-with_registers
