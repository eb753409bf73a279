use Rattle.iloc_rules.proofs.Outcome.LawfulOutcomes.{sound_same_outcome}
use Rattle.iloc_rules.proofs.laws.sound_schedules_keep_the_outcome.Goals as goal

pub returns : goal.returns
returns c = sound_same_outcome
