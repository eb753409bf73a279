use Rattle.iloc_farm.proofs.Checks.{passed_keep_outcomes}
use Rattle.iloc_farm.proofs.laws.passed_checks_keep_outcomes.Goals as goal

pub returns : goal.returns
returns c = passed_keep_outcomes
