use Rattle.iloc_rules.specs.Renaming.{renamed}
use Rattle.iloc_rules.proofs.Choice.GreedyExists.{greedy_exists}
use Rattle.iloc_rules.proofs.Choice.OneGreedy.{greedy_same}
use Rattle.iloc_rules.proofs.laws.one_greedy_schedule.Goals as goal

pub returns : goal.returns
returns c = record {
  exists = λ lat block. (renamed block, (greedy_exists lat block).0, (greedy_exists lat block).1);
  same = greedy_same;
}
