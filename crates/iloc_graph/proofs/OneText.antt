-- There is one text that draws a block.
use Rattle.iloc_graph.proofs.Common.{arith, BlocksHaveOneCluster}
use Rattle.iloc_explain.proofs.Links.{longest_same}

pub one_cluster : BlocksHaveOneCluster
one_cluster rule lat k name block text text' is also = grind (arith, longest_same)
