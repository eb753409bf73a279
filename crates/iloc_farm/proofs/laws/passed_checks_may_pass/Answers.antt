use Rattle.iloc_farm.proofs.Checks.{passed_may_pass}
use Rattle.iloc_farm.proofs.laws.passed_checks_may_pass.Goals as goal

pub returns : goal.returns
returns c = passed_may_pass
