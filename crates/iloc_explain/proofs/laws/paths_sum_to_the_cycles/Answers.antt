use Rattle.iloc_explain.proofs.PathSums.{paths_sum}
use Rattle.iloc_explain.proofs.laws.paths_sum_to_the_cycles.Goals as goal

pub returns : goal.returns
returns c = paths_sum
