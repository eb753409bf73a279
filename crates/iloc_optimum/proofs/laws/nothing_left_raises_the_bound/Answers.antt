use Rattle.iloc_optimum.proofs.LawfulTimings.{bound_raised}
use Rattle.iloc_optimum.proofs.laws.nothing_left_raises_the_bound.Goals as goal

pub returns : goal.returns
returns c = bound_raised
