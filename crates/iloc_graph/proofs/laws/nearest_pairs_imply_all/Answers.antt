use Rattle.iloc_graph.proofs.Waiting.{nearest_imply_all}
use Rattle.iloc_graph.proofs.laws.nearest_pairs_imply_all.Goals as goal

pub returns : goal.returns
returns c = nearest_imply_all
