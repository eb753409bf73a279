use Rattle.iloc_rules.specs.Renaming.{renamed}
use Rattle.iloc_rules.proofs.Choice.GreedyExists.{greedy_exists_by}
use Rattle.iloc_rules.proofs.Choice.OneGreedy.{greedy_same_by}
use Rattle.iloc_rules.proofs.laws.one_greedy_schedule_by_priorities.Goals as goal

pub returns : goal.returns
returns c = record {
  exists = λ prios lat block.
      let found = greedy_exists_by prios lat block in
      (renamed block, found.0, found.1);
  same = greedy_same_by;
}
