-- What holds of explanations as a whole.
use Rattle.std.specs.Prelude.{ℕ, ◌≡◌, ◌≢◌, ◌<◌, if◌then◌else◌, List, length, map, Contains}
use Rattle.std.specs.List.{range_with_len, sum_by}
use Rattle.iloc_ops.specs.declared.op.Op.{Op}
use Rattle.iloc_timed.specs.declared.latencies.Latencies.{Latencies}
use Rattle.iloc_timed.specs.declared.row.Row.{Row}
use Rattle.iloc_timed.specs.Cycles.{cycles}
use Rattle.iloc_timed.specs.Rows.{empty_row, issue_cycle, row_at}
use Rattle.iloc_rules.specs.declared.memory_rule.MemoryRule.{MemoryRule}
use Rattle.iloc_rules.specs.Greedy.{IsGreedyWhere}
use Rattle.iloc_rules.specs.Lawful.{IsLawfulWhere}
use Rattle.iloc_rules.specs.Rule.{counts_by}
use Rattle.iloc_explain.specs.declared.holding.Holder.TheVariants.{Nothing}
use Rattle.iloc_explain.specs.declared.path.Stretch.{Stretch}
use Rattle.iloc_explain.specs.declared.path.Stretch.TheVariants.{Free}
use Rattle.iloc_explain.specs.CycleLines.{begins_line}
use Rattle.iloc_explain.specs.Holding.{holder}
use Rattle.iloc_explain.specs.Listing.{IsExplanation}
use Rattle.iloc_explain.specs.Path.{IsPath, span}
use Rattle.iloc_explain.specs.Waiting.{IsReadyAt}

-- The rows of a schedule that is lawful by a rule of memory are read from the lines of its ready list: each cycle that begins a line has the row that it says
-- is taken, and the others have empty ones.
abbrev pub row_read : List ℕ → MemoryRule → Latencies → List Op → List Row → ℕ → Row
row_read prios rule lat ops rows c = if begins_line prios rule lat ops rows c then row_at rows c else empty_row

abbrev pub LinesGiveTheRows : Type 0
LinesGiveTheRows = (prios : List ℕ) (rule : MemoryRule) (lat : Latencies) (block ops : List Op) (rows : List Row)
    → IsLawfulWhere (counts_by rule ops) lat block ops rows
    → rows ≡ map (row_read prios rule lat ops rows) (range_with_len 0 (length rows))

-- there is one text that explains a schedule of a block
abbrev pub SchedulesHaveOneExplanation : Type 0
SchedulesHaveOneExplanation = (prios : List ℕ) (rule : MemoryRule) (lat : Latencies) (bound : ℕ) (block ops : List Op)
    (rows : List Row) (issued : List Op) (text text' : List ℕ)
    → IsExplanation prios rule lat bound block ops rows issued text
    → IsExplanation prios rule lat bound block ops rows issued text' → text ≡ text'

-- the stretches of the path of a schedule that is lawful by a rule of memory take its cycles together
abbrev pub PathsSumToTheCycles : Type 0
PathsSumToTheCycles = (rule : MemoryRule) (lat : Latencies) (block ops : List Op) (rows : List Row) (path : List Stretch)
    → IsLawfulWhere (counts_by rule ops) lat block ops rows → IsPath rule lat ops rows path
    → sum_by span path ≡ cycles lat ops rows

-- By whatever rule of memory and priorities a schedule is greedy, no row of it has room for an operation that is ready: something keeps each out of
-- the row before, and no stretch of its path is free.
pub record GreedySchedulesLeaveNoRoom : Type 0 where
  pub held : (prios : List ℕ) (rule : MemoryRule) (lat : Latencies) (block ops : List Op) (rows : List Row)
      → IsGreedyWhere (counts_by rule ops) prios lat block ops rows → (j r : ℕ) → j < length ops → IsReadyAt rule lat ops rows j r
      → holder ops rows j (issue_cycle rows j) r ≢ Nothing
  pub path : (prios : List ℕ) (rule : MemoryRule) (lat : Latencies) (block ops : List Op) (rows : List Row) (path : List Stretch)
      → IsGreedyWhere (counts_by rule ops) prios lat block ops rows → IsPath rule lat ops rows path → (n : ℕ) → Contains path (Free n) → ⊥
