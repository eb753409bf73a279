use Rattle.iloc_graph.proofs.Chains.{chains_run_along}
use Rattle.iloc_graph.proofs.laws.chains_run_along_nearest_pairs.Goals as goal

pub returns : goal.returns
returns c = chains_run_along
