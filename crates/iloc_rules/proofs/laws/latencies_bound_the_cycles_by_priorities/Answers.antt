use Rattle.iloc_rules.proofs.Bounds.BusyCycles.{busy_bound_by}
use Rattle.iloc_rules.proofs.laws.latencies_bound_the_cycles_by_priorities.Goals as goal

pub returns : goal.returns
returns c = busy_bound_by
