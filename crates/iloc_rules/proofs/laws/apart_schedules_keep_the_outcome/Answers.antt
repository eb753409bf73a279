use Rattle.iloc_rules.proofs.Outcome.LawfulOutcomes.{apart_same_outcome}
use Rattle.iloc_rules.proofs.laws.apart_schedules_keep_the_outcome.Goals as goal

pub returns : goal.returns
returns c = apart_same_outcome
