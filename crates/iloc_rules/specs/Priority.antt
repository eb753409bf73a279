-- The priority of an operation: how many cycles are left at least from its issue to the end of the block.
use Rattle.std.specs.Prelude.{ℕ, suc, ◌+◌, max, Bool, List, [], ◌∷◌, ◌++◌, map, fold, slice_index}
use Rattle.iloc_ops.specs.declared.op.Op.{Op}
use Rattle.iloc_timed.specs.declared.latencies.Latencies.{Latencies}
use Rattle.iloc_timed.specs.Latency.{latency}
use Rattle.iloc_rules.specs.declared.memory_rule.MemoryRule.{MemoryRule}
use Rattle.iloc_rules.specs.declared.memory_rule.MemoryRule.TheVariants.{Book, Address}
use Rattle.iloc_rules.specs.Apart.{by_address}
use Rattle.iloc_rules.specs.Delays.{Counts, delays_where, delays}

-- all delays from an operation to a later one, each with the later one's priority added
abbrev pub reaches : Latencies → Op → List Op → List ℕ → List ℕ
reaches lat op [] prios = []
reaches lat op (j ∷ later) [] = []
reaches lat op (j ∷ later) (prio ∷ prios) = map (λ d. d + prio) (delays lat op j) ++ reaches lat op later prios

-- the priorities of the later operations, and before them that of the operation
abbrev pub with_priority : Latencies → Op → List Op → List ℕ → List ℕ
with_priority lat op later prios = fold max (latency lat op) (reaches lat op later prios) ∷ prios

-- by operation, the greatest of its latency and of all d + prio(j) over its delay pairs (i, j, d)
abbrev pub priorities : Latencies → List Op → List ℕ
priorities lat [] = []
priorities lat (op ∷ later) = with_priority lat op later (priorities lat later)

-- the priority of operation i
abbrev pub priority : Latencies → List Op → ℕ → ℕ
priority lat ops i = slice_index (priorities lat ops) i

-- the same where these count; `row` says which of the later operations count with this one
abbrev pub reaches_where : (ℕ → Bool) → Latencies → Op → List Op → List ℕ → List ℕ
reaches_where row lat op [] prios = []
reaches_where row lat op (j ∷ later) [] = []
reaches_where row lat op (j ∷ later) (prio ∷ prios) =
    map (λ d. d + prio) (delays_where (row 0) lat op j) ++ reaches_where (λ k. row (suc k)) lat op later prios

abbrev pub with_priority_where : (ℕ → Bool) → Latencies → Op → List Op → List ℕ → List ℕ
with_priority_where row lat op later prios = fold max (latency lat op) (reaches_where row lat op later prios) ∷ prios

-- what counts among the operations after the first
abbrev pub after_first : Counts → Counts
after_first counts i j = counts (suc i) (suc j)

abbrev pub priorities_where : Counts → Latencies → List Op → List ℕ
priorities_where counts lat [] = []
priorities_where counts lat (op ∷ later) =
    with_priority_where (λ k. counts 0 (suc k)) lat op later (priorities_where (after_first counts) lat later)

abbrev pub priority_where : Counts → Latencies → List Op → ℕ → ℕ
priority_where counts lat ops i = slice_index (priorities_where counts lat ops) i

-- the priority of operation i by a rule
abbrev pub priority_under : MemoryRule → Latencies → List Op → ℕ → ℕ
priority_under Book lat ops i = priority lat ops i
priority_under Address lat ops i = priority_where (by_address ops) lat ops i
