use Rattle.iloc_rules.specs.Renaming.{renamed}
use Rattle.iloc_rules.proofs.Choice.GreedyExists.{greedy_exists_where}
use Rattle.iloc_rules.proofs.Choice.OneGreedy.{greedy_same_where}
use Rattle.iloc_rules.proofs.laws.one_greedy_schedule_by_counts.Goals as goal

pub returns : goal.returns
returns c = record {
  exists = λ counts prios lat block.
      let found = greedy_exists_where counts prios lat block in
      (renamed block, found.0, found.1);
  same = greedy_same_where;
}
