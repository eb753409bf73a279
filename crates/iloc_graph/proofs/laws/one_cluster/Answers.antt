use Rattle.iloc_graph.proofs.OneText as texts
use Rattle.iloc_graph.proofs.laws.one_cluster.Goals as goal

pub returns : goal.returns
returns c = texts.one_cluster
