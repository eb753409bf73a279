use Rattle.iloc_optimum.proofs.LawfulTimings.{reached}
use Rattle.iloc_optimum.proofs.laws.reached_bounds_are_optimal.Goals as goal

pub returns : goal.returns
returns c = reached
