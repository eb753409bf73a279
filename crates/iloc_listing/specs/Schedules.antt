-- The schedules of a file's blocks.
use Rattle.std.specs.Prelude.{◌≡◌, ℕ, ℤ, List, [], ◌∷◌, map, slice_get, Option, Some, None, IfSome}
use Rattle.iloc_ops.specs.declared.op.Op.{Op}
use Rattle.iloc_ops.specs.declared.file.Block.{Block}
use Rattle.iloc_meaning.specs.declared.outcome.Outcome.{Outcome}
use Rattle.iloc_meaning.specs.Outcome.{outcome}
use Rattle.iloc_timed.specs.declared.latencies.Latencies.{Latencies}
use Rattle.iloc_timed.specs.Schedule.{Table}
use Rattle.iloc_timed.specs.Timed.{timed_outcome}
use Rattle.iloc_rules.specs.declared.heuristic.Heuristic.{Heuristic}
use Rattle.iloc_rules.specs.declared.memory_rule.MemoryRule.{MemoryRule}
use Rattle.iloc_rules.specs.declared.memory_rule.MemoryRule.TheVariants.{Book}
use Rattle.iloc_rules.specs.Greedy.{IsGreedyBy, IsGreedyWhere}
use Rattle.iloc_rules.specs.Rule.{counts_by}
use Rattle.iloc_rules.specs.Heuristics.{priorities_by, priorities_under}
use Rattle.iloc_listing.specs.Listing.{cycles_of}

-- the schedule of the block is greedy by the priorities that this heuristic gives its operations
abbrev pub IsGreedyAs : Heuristic → Latencies → List Op → Table → Type 0
IsGreedyAs heuristic lat block s = IsGreedyBy (priorities_by heuristic lat s.ops) lat block s.ops s.rows

-- one by one, each schedule is the one of its block that is greedy by `heuristic`
abbrev pub AreGreedyAs : Heuristic → Latencies → List Block → List Table → Type 0
AreGreedyAs heuristic lat [] [] = Unit {0}
AreGreedyAs heuristic lat [] (s ∷ schedules) = ⊥
AreGreedyAs heuristic lat (b ∷ blocks) [] = ⊥
AreGreedyAs heuristic lat (b ∷ blocks) (s ∷ schedules) =
    IsGreedyAs heuristic lat b.ops s × AreGreedyAs heuristic lat blocks schedules

-- the schedule is that of block i, greedy by this heuristic
abbrev pub IsScheduleOf : Heuristic → Latencies → List Block → ℕ → Table → Type 0
IsScheduleOf heuristic lat blocks i s = IfSome (slice_get blocks i) (λ (b : Block). IsGreedyAs heuristic lat b.ops s)

-- `s` is the schedule of the block `b` that is greedy by `rule` and by the priorities `prios` of its renamed
-- operations, and there is no other
pub record IsTheGreedyUnder (rule : MemoryRule) (prios : List Op → List ℕ) (lat : Latencies) (b : Block) (s : Table)
    : Type 0 where
  pub greedy : IsGreedyWhere (counts_by rule s.ops) (prios s.ops) lat b.ops s.ops s.rows
  pub only : (t : Table) → IsGreedyWhere (counts_by rule t.ops) (prios t.ops) lat b.ops t.ops t.rows → t ≡ s

-- the same by the book
abbrev pub IsTheGreedyBy : (List Op → List ℕ) → Latencies → Block → Table → Type 0
IsTheGreedyBy = IsTheGreedyUnder Book

-- by the priorities of `heuristic`
abbrev pub IsTheGreedy : Heuristic → Latencies → Block → Table → Type 0
IsTheGreedy heuristic lat b s = IsTheGreedyBy (priorities_by heuristic lat) lat b s

-- what ranks a block's renamed operations: numbers of its own if there are some, else this heuristic
abbrev pub ranks_under : MemoryRule → Heuristic → Latencies → Option (List ℕ) → List Op → List ℕ
ranks_under rule heuristic lat None ops = priorities_under rule heuristic lat ops
ranks_under rule heuristic lat (Some numbers) ops = numbers

-- the same by the book
abbrev pub ranks : Heuristic → Latencies → Option (List ℕ) → List Op → List ℕ
ranks = ranks_under Book

-- `cycles` are the cycles of the schedule of the block `b` that is greedy by `rule` and by the priorities `prios`
pub record IsCountUnder (rule : MemoryRule) (prios : List Op → List ℕ) (lat : Latencies) (b : Block) (cycles : ℕ)
    : Type 0 where
  pub schedule : Table
  pub greedy : IsTheGreedyUnder rule prios lat b schedule
  pub counted : cycles ≡ cycles_of lat schedule

-- the same by the book
abbrev pub IsCountBy : (List Op → List ℕ) → Latencies → Block → ℕ → Type 0
IsCountBy = IsCountUnder Book

-- by the priorities of `heuristic`
abbrev pub IsCount : Heuristic → Latencies → Block → ℕ → Type 0
IsCount heuristic lat b cycles = IsCountBy (priorities_by heuristic lat) lat b cycles

-- no other list of schedules has that property
abbrev pub AreTheOnlyGreedyAs : Heuristic → Latencies → List Block → List Table → Type 0
AreTheOnlyGreedyAs heuristic lat blocks schedules =
    (others : List Table) → AreGreedyAs heuristic lat blocks others → others ≡ schedules

-- what comes of the blocks, each run plainly on this memory
abbrev pub plain_outcomes : List ℤ → List Block → List Outcome
plain_outcomes memory blocks = map (λ (b : Block). outcome b.ops memory) blocks

-- what comes of the schedules on the timed machine, each on this memory
abbrev pub timed_outcomes : Latencies → List ℤ → List Table → List Outcome
timed_outcomes lat memory schedules = map (λ (s : Table). timed_outcome lat s.ops s.rows memory) schedules

-- each schedule has the outcome of its block, whatever the memory
abbrev pub KeepOutcomes : Latencies → List Block → List Table → Type 0
KeepOutcomes lat blocks schedules = (memory : List ℤ) → timed_outcomes lat memory schedules ≡ plain_outcomes memory blocks

-- blocks to be scheduled, with the latencies and the heuristic
pub record ToSchedule : Type 0 where
  pub blocks : List Block
  pub latencies : Latencies
  pub heuristic : Heuristic
