use Rattle.iloc_fault.proofs.Places.{one_place}
use Rattle.iloc_fault.proofs.laws.blocks_fault_at_one_place.Goals as goal

pub returns : goal.returns
returns c = one_place
