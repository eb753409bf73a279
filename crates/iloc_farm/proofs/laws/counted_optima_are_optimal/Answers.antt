use Rattle.iloc_farm.proofs.Compared.{counted_optima}
use Rattle.iloc_farm.proofs.laws.counted_optima_are_optimal.Goals as goal

pub returns : goal.returns
returns c = counted_optima
