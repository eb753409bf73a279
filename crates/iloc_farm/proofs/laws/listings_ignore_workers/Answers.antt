use Rattle.iloc_farm.proofs.Listings.{ignore_workers}
use Rattle.iloc_farm.proofs.laws.listings_ignore_workers.Goals as goal

pub returns : goal.returns
returns c = ignore_workers
