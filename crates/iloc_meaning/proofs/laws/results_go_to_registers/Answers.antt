use Rattle.iloc_meaning.proofs.Effects.{results_go}
use Rattle.iloc_meaning.proofs.laws.results_go_to_registers.Goals as goal

pub returns : goal.returns
returns c = results_go
