-- How few cycles lawful schedules of a block take.
use Rattle.std.specs.Prelude.{ℕ, ◌≤◌, List}
use Rattle.iloc_ops.specs.declared.op.Op.{Op}
use Rattle.iloc_timed.specs.declared.latencies.Latencies.{Latencies}
use Rattle.iloc_timed.specs.declared.row.Row.{Row}
use Rattle.iloc_timed.specs.Cycles.{cycles}
use Rattle.iloc_rules.specs.declared.memory_rule.MemoryRule.{MemoryRule}
use Rattle.iloc_rules.specs.Lawful.{IsLawfulWhere}
use Rattle.iloc_rules.specs.Rule.{counts_by}

-- no schedule of the block that is lawful by this rule of memory takes fewer cycles
abbrev pub IsBound : MemoryRule → Latencies → List Op → ℕ → Type 0
IsBound rule lat block n =
    (ops : List Op) (rows : List Row) → IsLawfulWhere (counts_by rule ops) lat block ops rows → n ≤ cycles lat ops rows

-- a schedule of the block that is lawful by the rule, and none takes fewer cycles
pub record IsOptimal (rule : MemoryRule) (lat : Latencies) (block ops : List Op) (rows : List Row) : Type 0 where
  pub lawful : IsLawfulWhere (counts_by rule ops) lat block ops rows
  pub fewest : IsBound rule lat block (cycles lat ops rows)
