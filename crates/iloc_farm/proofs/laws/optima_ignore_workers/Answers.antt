use Rattle.iloc_farm.proofs.Listings.{optima_ignore_workers}
use Rattle.iloc_farm.proofs.laws.optima_ignore_workers.Goals as goal

pub returns : goal.returns
returns c = optima_ignore_workers
