-- What holds of bounds and of cycles of issue.
use Rattle.std.specs.Prelude.{ℕ, ◌≡◌, ◌+◌, ◌-◌, List, length, map, replicate}
use Rattle.std.specs.List.{All}
use Rattle.iloc_ops.specs.declared.op.Op.{Op}
use Rattle.iloc_timed.specs.declared.latencies.Latencies.{Latencies}
use Rattle.iloc_timed.specs.declared.row.Row.{Row}
use Rattle.iloc_timed.specs.Cycles.{cycles}
use Rattle.iloc_timed.specs.Kinds.{kind}
use Rattle.iloc_timed.specs.Rows.{issue_cycle}
use Rattle.iloc_rules.specs.declared.memory_rule.MemoryRule.{MemoryRule}
use Rattle.iloc_rules.specs.Delays.{IsDelayPairWhere}
use Rattle.iloc_rules.specs.Lawful.{IsLawfulWhere}
use Rattle.iloc_bound.specs.Bound.{tails_under}
use Rattle.iloc_rules.specs.Renaming.{renamed}
use Rattle.iloc_rules.specs.Rule.{counts_by}
use Rattle.iloc_sched.specs.declared.edges.Edge.{Edge}
use Rattle.iloc_optimum.specs.Bound.{IsBound, IsOptimal}
use Rattle.iloc_optimum.specs.declared.windows.Windows.{Windows}
use Rattle.iloc_optimum.specs.Timing.{HasNone, IsTiming}

-- the edges are delay pairs of the operations by this rule of memory
abbrev pub AreDelayPairs : MemoryRule → Latencies → List Op → List Edge → Type 0
AreDelayPairs rule lat ops edges = All (λ (e : Edge). IsDelayPairWhere (counts_by rule ops) lat ops e.from e.to e.delay) edges

-- a lawful schedule that takes as many cycles as a bound is optimal
abbrev pub ReachedBoundsAreOptimal : Type 0
ReachedBoundsAreOptimal = (rule : MemoryRule) (lat : Latencies) (block ops : List Op) (rows : List Row) (n : ℕ)
    → IsLawfulWhere (counts_by rule ops) lat block ops rows → IsBound rule lat block n → cycles lat ops rows ≡ n
    → IsOptimal rule lat block ops rows

-- the cycles of issue in a lawful schedule keep any delay pairs and the units
abbrev pub LawfulSchedulesAreTimings : Type 0
LawfulSchedulesAreTimings = (rule : MemoryRule) (lat : Latencies) (block ops : List Op) (rows : List Row) (edges : List Edge)
    → IsLawfulWhere (counts_by rule ops) lat block ops rows → AreDelayPairs rule lat ops edges
    → IsTiming edges (map kind ops) (issue_cycle rows)

-- `w` has the windows that `limit` cycles leave of operations: each is issued early enough for its tail
abbrev pub AreLeft : MemoryRule → Latencies → List Op → ℕ → Windows → Type 0
AreLeft rule lat ops limit w =
    (w.firsts.items ≡ replicate (length ops) 0) × (w.lasts.items ≡ map (λ tail. limit - tail) (tails_under rule lat ops))

-- where no cycles of issue are within them, each lawful schedule takes more cycles
abbrev pub NothingLeftRaisesTheBound : Type 0
NothingLeftRaisesTheBound = (rule : MemoryRule) (lat : Latencies) (block : List Op) (limit : ℕ) (edges : List Edge)
    (w : Windows) → AreDelayPairs rule lat (renamed block) edges → AreLeft rule lat (renamed block) limit w
    → HasNone edges (map kind (renamed block)) w → IsBound rule lat block (limit + 1)
