use Rattle.iloc_farm.proofs.Listings.{can_be_listed}
use Rattle.iloc_farm.proofs.laws.greedy_schedules_can_be_listed.Goals as goal

pub returns : goal.returns
returns c = can_be_listed
