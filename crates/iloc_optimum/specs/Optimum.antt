-- What is found of a block.
use Rattle.std.specs.Prelude.{ℕ, ◌≡◌, ◌<◌, ◌≤◌, List, get_or, length, slice_index, ℤ, MatchOption, None, Option, Some}
use Rattle.iloc_ops.specs.declared.op.Op.{Op}
use Rattle.iloc_meaning.specs.Outcome.{outcome}
use Rattle.iloc_timed.specs.declared.latencies.Latencies.{Latencies}
use Rattle.iloc_timed.specs.Cycles.{cycles}
use Rattle.iloc_timed.specs.Schedule.{Table}
use Rattle.iloc_timed.specs.Timed.{timed_outcome}
use Rattle.iloc_rules.specs.declared.heuristic.Heuristic.{Heuristic}
use Rattle.iloc_rules.specs.declared.heuristic.Heuristic.TheVariants.{Chain}
use Rattle.iloc_rules.specs.declared.memory_rule.MemoryRule.{MemoryRule}
use Rattle.iloc_rules.specs.Greedy.{IsGreedyWhere}
use Rattle.iloc_rules.specs.Heuristics.Listed.{heuristics}
use Rattle.iloc_rules.specs.Lawful.{IsLawfulWhere}
use Rattle.iloc_bound.specs.Bound.{least_under}
use Rattle.iloc_rules.specs.Rule.{counts_by}
use Rattle.iloc_rules.specs.Heuristics.{priorities_under}
use Rattle.iloc_optimum.specs.declared.optimizer.Optimum.{Optimum}
use Rattle.iloc_optimum.specs.declared.optimizer.Orders.{Orders}
use Rattle.iloc_rules.specs.declared.sought.Sought.{Sought}
use Rattle.iloc_optimum.specs.Bound.{IsBound}

abbrev pub cycles_of : Latencies → Table → ℕ
cycles_of lat s = cycles lat s.ops s.rows

-- it takes at most as many cycles as the block's schedule that is greedy by this rule of memory and this heuristic
abbrev pub IsAsShortAs : MemoryRule → Heuristic → Latencies → List Op → Table → Type 0
IsAsShortAs rule h lat block s = (t : Table)
    → IsGreedyWhere (counts_by rule t.ops) (priorities_under rule h lat t.ops) lat block t.ops t.rows
    → cycles_of lat s ≤ cycles_of lat t

-- the schedule of `block` that is greedy by `rule` and by the heuristic `h` takes `n` cycles
pub record IsCountOf (rule : MemoryRule) (h : Heuristic) (lat : Latencies) (block : List Op) (n : ℕ) : Type 0 where
  pub schedule : Table
  pub greedy : IsGreedyWhere (counts_by rule schedule.ops) (priorities_under rule h lat schedule.ops) lat block
      schedule.ops schedule.rows
  pub counted : n ≡ cycles_of lat schedule

-- This is found of the block by a rule of memory.
pub record IsOptimumOf (rule : MemoryRule) (lat : Latencies) (block : List Op) (o : Optimum) : Type 0 where
  -- The schedule is lawful by the rule, and on every memory it has the block's outcome.
  pub lawful : IsLawfulWhere (counts_by rule o.schedule.ops) lat block o.schedule.ops o.schedule.rows
  pub outcome : (memory : List ℤ) → timed_outcome lat o.schedule.ops o.schedule.rows memory ≡ outcome block memory
  -- It takes at most as many cycles as each greedy one.
  pub orders : (h : Heuristic) → IsAsShortAs rule h lat block o.schedule
  -- No schedule that is lawful by it takes fewer cycles than the bound, which is its least or more.
  pub bound : IsBound rule lat block o.bound
  pub least : least_under rule lat block ≤ o.bound

-- `o` has the cycles of the greedy schedules of `block` by `rule`, and what is found of the shortest.
pub record AreOrders (rule : MemoryRule) (lat : Latencies) (block : List Op) (o : Orders) : Type 0 where
  pub all : length o.cycles ≡ length heuristics
  pub each : (i : ℕ) → i < length heuristics → IsCountOf rule (get_or heuristics i Chain) lat block (slice_index o.cycles i)
  pub best : IsOptimumOf rule lat block o.best

-- `s` has the cycles of a schedule, and the bound, that are found of `block` by `rule`.
pub record IsSought (rule : MemoryRule) (lat : Latencies) (block : List Op) (s : Sought) : Type 0 where
  pub optimum : Optimum
  pub found : IsOptimumOf rule lat block optimum
  pub best : s.best ≡ cycles_of lat optimum.schedule
  pub bound : s.bound ≡ optimum.bound

-- where nodes are given, this is found of the cycles that a block takes by the rule, and else nothing is
abbrev pub IsSoughtIf : Option ℕ → MemoryRule → Latencies → List Op → Option Sought → Type 0
IsSoughtIf None rule lat block sought = sought ≡ None
IsSoughtIf (Some nodes) rule lat block sought = MatchOption sought ⊥ (IsSought rule lat block)
