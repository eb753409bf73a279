-- What the bound says of lawful schedules.
use Rattle.std.specs.Prelude.{◌≡◌, ◌≤◌, List}
use Rattle.iloc_ops.specs.declared.op.Op.{Op}
use Rattle.iloc_timed.specs.declared.latencies.Latencies.{Latencies}
use Rattle.iloc_timed.specs.declared.row.Row.{Row}
use Rattle.iloc_timed.specs.Cycles.{cycles}
use Rattle.iloc_rules.specs.declared.memory_rule.MemoryRule.{MemoryRule}
use Rattle.iloc_rules.specs.Lawful.{IsLawful, IsLawfulWhere}
use Rattle.iloc_rules.specs.Least.{least}
use Rattle.iloc_rules.specs.Rule.{counts_by}
use Rattle.iloc_bound.specs.Bound.{least_under}

-- a lawful schedule of a block takes at least its bound
abbrev pub LeastBoundsTheCycles : Type 0
LeastBoundsTheCycles = (lat : Latencies) (block ops : List Op) (rows : List Row)
    → IsLawful lat block ops rows → least lat block ≤ cycles lat ops rows

-- so by a rule of memory does one that is lawful by it
abbrev pub LeastBoundsTheCyclesByRule : Type 0
LeastBoundsTheCyclesByRule = (rule : MemoryRule) (lat : Latencies) (block ops : List Op) (rows : List Row)
    → IsLawfulWhere (counts_by rule ops) lat block ops rows → least_under rule lat block ≤ cycles lat ops rows

-- where a lawful schedule of a block takes just its bound, no other takes fewer cycles
abbrev pub BoundsProveTheOptimum : Type 0
BoundsProveTheOptimum = (lat : Latencies) (block ops ops' : List Op) (rows rows' : List Row)
    → IsLawful lat block ops rows → cycles lat ops rows ≡ least lat block
    → IsLawful lat block ops' rows' → cycles lat ops rows ≤ cycles lat ops' rows'
