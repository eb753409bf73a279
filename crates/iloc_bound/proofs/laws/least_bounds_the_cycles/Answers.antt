use Rattle.iloc_bound.proofs.LeastBound.{least_bound}
use Rattle.iloc_bound.proofs.laws.least_bounds_the_cycles.Goals as goal

pub returns : goal.returns
returns c = least_bound
