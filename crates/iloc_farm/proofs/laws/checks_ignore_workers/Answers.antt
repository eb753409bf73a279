use Rattle.iloc_farm.proofs.Listings.{checks_ignore_workers}
use Rattle.iloc_farm.proofs.laws.checks_ignore_workers.Goals as goal

pub returns : goal.returns
returns c = checks_ignore_workers
