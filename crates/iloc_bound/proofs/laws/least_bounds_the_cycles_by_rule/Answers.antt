use Rattle.iloc_bound.proofs.LeastBound.{ruled_least_bound}
use Rattle.iloc_bound.proofs.laws.least_bounds_the_cycles_by_rule.Goals as goal

pub returns : goal.returns
returns c = ruled_least_bound
