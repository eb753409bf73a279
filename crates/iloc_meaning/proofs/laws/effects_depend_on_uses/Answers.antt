use Rattle.iloc_meaning.proofs.Effects.{effect_same}
use Rattle.iloc_meaning.proofs.laws.effects_depend_on_uses.Goals as goal

pub returns : goal.returns
returns c = effect_same
