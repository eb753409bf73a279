use Rattle.iloc_rules.proofs.Bounds.BusyCycles.{busy_bound_where}
use Rattle.iloc_rules.proofs.Bounds.PriorityBound.{priority_bound_where}
use Rattle.iloc_rules.proofs.laws.counts_bound_the_cycles.Goals as goal

pub returns : goal.returns
returns c = record {
  most = busy_bound_where;
  least = λ counts lat block ops rows lawful. priority_bound_where counts lat ops rows lawful.waits;
}
