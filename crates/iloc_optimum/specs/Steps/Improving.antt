-- The best schedule while it is improved.
use Rattle.std.specs.Prelude.{◌≤◌, List}
use Rattle.iloc_ops.specs.declared.op.Op.{Op}
use Rattle.iloc_timed.specs.declared.latencies.Latencies.{Latencies}
use Rattle.iloc_timed.specs.Schedule.{Table}
use Rattle.iloc_rules.specs.declared.heuristic.Heuristic.{Heuristic}
use Rattle.iloc_rules.specs.declared.memory_rule.MemoryRule.{MemoryRule}
use Rattle.iloc_rules.specs.Lawful.{IsLawfulWhere}
use Rattle.iloc_rules.specs.Rule.{counts_by}
use Rattle.iloc_optimum.specs.Optimum.{cycles_of, IsAsShortAs}

-- the schedule is lawful by this rule of memory
abbrev pub IsLawfulBy : MemoryRule → Latencies → List Op → Table → Type 0
IsLawfulBy rule lat block s = IsLawfulWhere (counts_by rule s.ops) lat block s.ops s.rows

-- a schedule in place of another, as short as that and as the one that is greedy by this heuristic
pub record IsShortened (rule : MemoryRule) (lat : Latencies) (block : List Op) (h : Heuristic) (old new : Table) : Type 0 where
  pub lawful : IsLawfulBy rule lat block old → IsLawfulBy rule lat block new
  pub fewer : cycles_of lat new ≤ cycles_of lat old
  pub order : IsAsShortAs rule h lat block new
