use Rattle.iloc_bound.proofs.LeastBound.{optimum}
use Rattle.iloc_bound.proofs.laws.bounds_prove_the_optimum.Goals as goal

pub returns : goal.returns
returns c = optimum
