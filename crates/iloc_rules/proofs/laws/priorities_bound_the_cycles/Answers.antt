use Rattle.iloc_rules.proofs.Bounds.PriorityBound.{priority_bound}
use Rattle.iloc_rules.proofs.laws.priorities_bound_the_cycles.Goals as goal

pub returns : goal.returns
returns c = λ lat block ops rows lawful. priority_bound lat ops rows lawful.waits
