use Rattle.iloc_rules.proofs.Bounds.BusyCycles.{busy_bound}
use Rattle.iloc_rules.proofs.laws.latencies_bound_the_cycles.Goals as goal

pub returns : goal.returns
returns c = busy_bound
