use Rattle.iloc_optimum.proofs.LawfulTimings.{timings}
use Rattle.iloc_optimum.proofs.laws.lawful_schedules_are_timings.Goals as goal

pub returns : goal.returns
returns c = timings
