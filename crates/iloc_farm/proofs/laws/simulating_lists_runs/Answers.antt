use Rattle.iloc_farm.proofs.Listers.{simulating_lists_runs}
use Rattle.iloc_farm.proofs.laws.simulating_lists_runs.Goals as goal

pub returns : goal.returns
returns c = simulating_lists_runs
