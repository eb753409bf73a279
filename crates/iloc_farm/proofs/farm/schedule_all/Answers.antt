use Rattle.iloc_farm.proofs.Common.{rules, greedy_all_same_as, keep_outcomes}
use Rattle.iloc_farm.proofs.farm.schedule_all.Goals as goal

pub returns-clause-greedy : goal.returns-clause-greedy
returns-clause-greedy g c = search rules

pub returns-clause-only : goal.returns-clause-only
returns-clause-only g c = λ others greedy. greedy_all_same_as _ _ _ _ others (returns-clause-greedy g c) greedy

pub returns-clause-outcomes : goal.returns-clause-outcomes
returns-clause-outcomes g c = keep_outcomes _ _ _ _ (returns-clause-greedy g c)
