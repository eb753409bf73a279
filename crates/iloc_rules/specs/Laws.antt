-- What holds of schedules as a whole.
use Rattle.std.specs.Prelude.{◌≡◌, ℕ, ◌+◌, ◌<◌, ◌≤◌, ◌↔◌, List, length, sum_by, ℤ, true}
use Rattle.iloc_ops.specs.declared.op.Op.{Op}
use Rattle.iloc_meaning.specs.Outcome.{outcome}
use Rattle.iloc_timed.specs.declared.latencies.Latencies.{Latencies}
use Rattle.iloc_timed.specs.declared.row.Row.{Row}
use Rattle.iloc_timed.specs.Latency.{latency}
use Rattle.iloc_timed.specs.Rows.{issue_cycle}
use Rattle.iloc_timed.specs.Cycles.{cycles}
use Rattle.iloc_timed.specs.Timed.{timed_outcome}
use Rattle.iloc_rules.specs.Priority.{priority, priority_where}
use Rattle.iloc_rules.specs.Heuristics.{through, slack}
use Rattle.iloc_rules.specs.Delays.{Counts}
use Rattle.iloc_rules.specs.Lawful.{IsLawfulWhere, IsLawful}
use Rattle.iloc_rules.specs.Sound.{IsSound}
use Rattle.iloc_rules.specs.Apart.{unless_apart, by_address}
use Rattle.iloc_rules.specs.Greedy.{IsGreedyWhere, IsGreedy, IsGreedyBy}

-- on every memory a lawful schedule of a block has the block's outcome
abbrev pub LawfulSchedulesKeepTheOutcome : Type 0
LawfulSchedulesKeepTheOutcome = (lat : Latencies) (block ops : List Op) (rows : List Row) (memory : List ℤ)
    → IsLawful lat block ops rows → timed_outcome lat ops rows memory ≡ outcome block memory

-- so has one that is lawful where fewer count, if all count that meet in some run of the operations in order
abbrev pub SoundSchedulesKeepTheOutcome : Type 0
SoundSchedulesKeepTheOutcome = (counts : Counts) (lat : Latencies) (block ops : List Op) (rows : List Row)
    (memory : List ℤ) → IsSound counts ops → IsLawfulWhere counts lat block ops rows
    → timed_outcome lat ops rows memory ≡ outcome block memory

-- operations whose addresses are apart never meet, whether stores count among themselves or not
pub record ApartOperationsNeverMeet : Type 0 where
  pub apart : (ops : List Op) → IsSound (unless_apart ops) ops
  pub but_stores : (ops : List Op) → IsSound (by_address ops) ops

-- So a schedule has the block's outcome if it is lawful where all pairs count but the ones that are apart.
abbrev pub ApartSchedulesKeepTheOutcome : Type 0
ApartSchedulesKeepTheOutcome = (lat : Latencies) (block ops : List Op) (rows : List Row) (memory : List ℤ)
    → IsLawfulWhere (unless_apart ops) lat block ops rows → timed_outcome lat ops rows memory ≡ outcome block memory

-- the fewer count, the more schedules are lawful
abbrev pub FewerCountMoreIsLawful : Type 0
FewerCountMoreIsLawful = (counts more : Counts) (lat : Latencies) (block ops : List Op) (rows : List Row)
    → ((i j : ℕ) → counts i j ≡ true → more i j ≡ true)
    → IsLawfulWhere more lat block ops rows → IsLawfulWhere counts lat block ops rows

-- a block has just one greedy schedule
pub record BlocksHaveOneGreedySchedule : Type 0 where
  pub exists : (lat : Latencies) (block : List Op) → (ops : List Op) × (rows : List Row) × IsGreedy lat block ops rows
  pub same : (lat : Latencies) (block ops ops' : List Op) (rows rows' : List Row)
      → IsGreedy lat block ops rows → IsGreedy lat block ops' rows' → (ops ≡ ops') × (rows ≡ rows')

-- by whatever priorities, a block has just one greedy schedule
pub record PrioritiesHaveOneGreedySchedule : Type 0 where
  pub exists : (prios : List ℕ) (lat : Latencies) (block : List Op)
      → (ops : List Op) × (rows : List Row) × IsGreedyBy prios lat block ops rows
  pub same : (prios : List ℕ) (lat : Latencies) (block ops ops' : List Op) (rows rows' : List Row)
      → IsGreedyBy prios lat block ops rows → IsGreedyBy prios lat block ops' rows' → (ops ≡ ops') × (rows ≡ rows')

-- so whichever count
pub record CountsHaveOneGreedySchedule : Type 0 where
  pub exists : (counts : Counts) (prios : List ℕ) (lat : Latencies) (block : List Op)
      → (ops : List Op) × (rows : List Row) × IsGreedyWhere counts prios lat block ops rows
  pub same : (counts : Counts) (prios : List ℕ) (lat : Latencies) (block ops ops' : List Op) (rows rows' : List Row)
      → IsGreedyWhere counts prios lat block ops rows → IsGreedyWhere counts prios lat block ops' rows'
      → (ops ≡ ops') × (rows ≡ rows')

-- By any `counts`, the cycles of a greedy schedule are at most the sum of the latencies of its operations; the cycles
-- of a lawful one are at least the cycle of issue of each operation and its priority together.
pub record CountsBoundTheCycles : Type 0 where
  pub most : (counts : Counts) (prios : List ℕ) (lat : Latencies) (block ops : List Op) (rows : List Row)
      → IsGreedyWhere counts prios lat block ops rows → cycles lat ops rows ≤ sum_by (latency lat) ops
  pub least : (counts : Counts) (lat : Latencies) (block ops : List Op) (rows : List Row)
      → IsLawfulWhere counts lat block ops rows → (i : ℕ) → i < length ops
      → issue_cycle rows i + priority_where counts lat ops i ≤ cycles lat ops rows

-- in a lawful schedule the cycle of issue of an operation and its priority together are at most the cycles
abbrev pub PrioritiesBoundTheCycles : Type 0
PrioritiesBoundTheCycles = (lat : Latencies) (block ops : List Op) (rows : List Row)
    → IsLawful lat block ops rows → (i : ℕ) → i < length ops → issue_cycle rows i + priority lat ops i ≤ cycles lat ops rows

-- the cycles of a greedy schedule are at most the latencies of its operations together
abbrev pub LatenciesBoundTheCycles : Type 0
LatenciesBoundTheCycles = (lat : Latencies) (block ops : List Op) (rows : List Row)
    → IsGreedy lat block ops rows → cycles lat ops rows ≤ sum_by (latency lat) ops

-- by whatever priorities
abbrev pub LatenciesBoundTheCyclesByPriorities : Type 0
LatenciesBoundTheCyclesByPriorities = (prios : List ℕ) (lat : Latencies) (block ops : List Op) (rows : List Row)
    → IsGreedyBy prios lat block ops rows → cycles lat ops rows ≤ sum_by (latency lat) ops

-- the less slack an operation has, the longer is the longest chain of delays through it
abbrev pub LessSlackIsALongerChain : Type 0
LessSlackIsALongerChain = (lat : Latencies) (ops : List Op) (i j : ℕ) → i < length ops → j < length ops
    → (slack lat ops i < slack lat ops j) ↔ (through lat ops j < through lat ops i)
