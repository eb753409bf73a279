use Rattle.iloc_rules.proofs.Outcome.LawfulOutcomes.{lawful_same_outcome}
use Rattle.iloc_rules.proofs.laws.lawful_schedules_keep_the_outcome.Goals as goal

pub returns : goal.returns
returns c = lawful_same_outcome
