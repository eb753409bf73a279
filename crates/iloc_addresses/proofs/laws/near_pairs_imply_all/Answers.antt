use Rattle.iloc_addresses.proofs.FarPairs.{near_implies_all}
use Rattle.iloc_addresses.proofs.laws.near_pairs_imply_all.Goals as goal

pub returns : goal.returns
returns c = near_implies_all
