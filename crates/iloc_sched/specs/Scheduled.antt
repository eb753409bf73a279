-- What the scheduler promises of a schedule.
use Rattle.std.specs.Prelude.{ℕ, ◌+◌, ◌≡◌, ◌<◌, ◌≤◌, List, length, sum_by, ℤ}
use Rattle.iloc_ops.specs.declared.op.Op.{Op}
use Rattle.iloc_meaning.specs.Outcome.{outcome}
use Rattle.iloc_timed.specs.declared.latencies.Latencies.{Latencies}
use Rattle.iloc_timed.specs.declared.row.Row.{Row}
use Rattle.iloc_timed.specs.Cycles.{cycles}
use Rattle.iloc_timed.specs.Latency.{latency}
use Rattle.iloc_timed.specs.Limits.{MAX_ROWS}
use Rattle.iloc_timed.specs.Rows.{IsTable, issue_cycle}
use Rattle.iloc_timed.specs.Schedule.{Table}
use Rattle.iloc_timed.specs.Timed.{timed_outcome}
use Rattle.iloc_rules.specs.declared.memory_rule.MemoryRule.{MemoryRule}
use Rattle.iloc_rules.specs.declared.memory_rule.MemoryRule.TheVariants.{Book}
use Rattle.iloc_rules.specs.Lawful.{IsLawfulWhere}
use Rattle.iloc_rules.specs.Greedy.{IsGreedyWhere}
use Rattle.iloc_rules.specs.Rule.{counts_by}
use Rattle.iloc_rules.specs.Priority.{priority_under}
use Rattle.iloc_sched.specs.Graph.GraphOf.{GraphOf, of_block}

-- `s` is the schedule of `block` by `rule` and by priorities: `by` gives each renamed operation its own.
pub record IsTheScheduleBy (rule : MemoryRule) (by : List Op → List ℕ) (lat : Latencies) (block : List Op) (s : Table) : Type 0 where
  -- It is lawful, and greedy by the priorities `by s.ops`.
  pub greedy : IsGreedyWhere (counts_by rule s.ops) (by s.ops) lat block s.ops s.rows
  -- No other schedule of the block is.
  pub only : (ops : List Op) (rows : List Row) → IsGreedyWhere (counts_by rule ops) (by ops) lat block ops rows
      → (ops ≡ s.ops) × (rows ≡ s.rows)
  -- As every lawful schedule of the block does, it has the block's outcome on every memory.
  pub outcome : (ops : List Op) (rows : List Row) (memory : List ℤ)
      → IsLawfulWhere (counts_by rule ops) lat block ops rows
      → timed_outcome lat ops rows memory ≡ outcome block memory
  -- It takes at least as many cycles as an operation's issue and the longest chain of delays from there together,
  pub least : (i : ℕ) → i < length s.ops → issue_cycle s.rows i + priority_under rule lat s.ops i ≤ cycles lat s.ops s.rows
  -- and at most as many as the latencies of all operations together.
  pub most : cycles lat s.ops s.rows ≤ sum_by (latency lat) s.ops

-- the same by the book
abbrev pub IsTheSchedule : (List Op → List ℕ) → Latencies → List Op → Table → Type 0
IsTheSchedule = IsTheScheduleBy Book

-- `rows` are those of the schedule of the block of `graph` that is greedy by priorities: `by` gives each renamed operation its own.
pub record AreRowsBy (by : MemoryRule → Latencies → List Op → List ℕ) (graph : GraphOf) (rows : List Row) : Type 0 where
  pub table : IsTable graph.ops rows
  pub few : length rows ≤ MAX_ROWS
  pub schedule : (rule : MemoryRule) (lat : Latencies) (block : List Op) → graph ≡ of_block rule lat block
      → IsTheScheduleBy rule (by rule lat) lat block (record { ops = graph.ops; rows = rows })
