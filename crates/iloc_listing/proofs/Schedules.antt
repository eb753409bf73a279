-- The greedy schedules of a file's blocks: there is one list of them, they keep the outcomes, and their cycles are few.
use Rattle.iloc_listing.proofs.Common.{◌≡◌, ℕ, suc, ◌+◌, ◌*◌, ◌^◌, ◌<◌, ◌≤◌, List, [], ◌∷◌, length, slice_get, Some, sum_by, sym, refl, ◌∙◌, subst, arith, count_by-le-length, length-filter, sum_by-cons, AllByRecursion, cycles, Row, cycles_of, total_cycles}
use Rattle.iloc_ops.specs.Limits.{MAX_OPS}
use Rattle.iloc_ops.specs.declared.op.Op.{Op}
use Rattle.iloc_ops.specs.declared.file.Block.{Block}
use Rattle.iloc_text.specs.Files.{AreWithinLimits}
use Rattle.iloc_timed.specs.declared.latencies.Latencies.{Latencies}
use Rattle.iloc_timed.specs.Kinds.{kind}
use Rattle.iloc_timed.specs.Latency.{latency}
use Rattle.iloc_timed.specs.Schedule.{Table}
use Rattle.iloc_timed.proofs.WholeRuns.{short_latency}
use Rattle.iloc_rules.specs.declared.delay_pairs.TheConstants.{LONGEST_DELAY}
use Rattle.iloc_rules.specs.declared.heuristic.Heuristic.{Heuristic}
use Rattle.iloc_rules.specs.declared.memory_rule.MemoryRule.{MemoryRule}
use Rattle.iloc_rules.specs.declared.memory_rule.MemoryRule.TheVariants.{Book}
use Rattle.iloc_rules.specs.Delays.{Counts, all_count}
use Rattle.iloc_rules.specs.Rule.{counts_by}
use Rattle.iloc_rules.specs.Greedy.{IsGreedyBy, IsGreedyWhere}
use Rattle.iloc_rules.specs.Heuristics.{priorities_by}
use Rattle.iloc_rules.proofs.Renamed.MentionedSources.{length-renamed_by}
use Rattle.iloc_rules.specs.Renaming.{renamed}
use Rattle.iloc_rules.proofs.Basics.IssueCycles.{issue_cycle_within}
use Rattle.iloc_rules.proofs.Basics.Maxima.{fold_max_reached}
use Rattle.iloc_rules.proofs.Basics.Members.{from_map}
use Rattle.iloc_rules.proofs.Bounds.BusyCycles.{busy_bound_where}
use Rattle.iloc_rules.proofs.Choice.OneGreedy.{greedy_same_as, greedy_same_where}
use Rattle.iloc_rules.proofs.Outcome.LawfulOutcomes.{lawful_same_outcome}
use Rattle.iloc_listing.specs.Schedules.{AreGreedyAs, IsGreedyAs, IsScheduleOf, IsTheGreedy, IsTheGreedyBy, IsTheGreedyUnder, KeepOutcomes}
use Rattle.iloc_listing.specs.Limits.{most_cycles}

-- One list

-- a schedule is its operations and its rows
table_same : (s t : Table) → s.ops ≡ t.ops → s.rows ≡ t.rows → s ≡ t
table_same s t ops rows = λ i. record { ops = ops i; rows = rows i }

pub cons_same : {X : Type 0} (x y : X) (xs ys : List X) → x ≡ y → xs ≡ ys → x ∷ xs ≡ y ∷ ys
cons_same x y xs ys head tail = rw (head, tail) refl

-- by one heuristic a block has one greedy schedule
pub one_schedule : (heuristic : Heuristic) (lat : Latencies) (block : List Op) (s t : Table)
    → IsGreedyAs heuristic lat block s → IsGreedyAs heuristic lat block t → t ≡ s
one_schedule heuristic lat block s t greedy other =
    let same : (t.ops ≡ s.ops) × (t.rows ≡ s.rows) =
    greedy_same_as (priorities_by heuristic lat) lat block t.ops s.ops t.rows s.rows other greedy in
    table_same t s same.0 same.1

-- so the schedule that was found is it, by whatever rule of memory and priorities
pub the_greedy_under : (rule : MemoryRule) (prios : List Op → List ℕ) (lat : Latencies) (b : Block) (s : Table)
    → IsGreedyWhere (counts_by rule s.ops) (prios s.ops) lat b.ops s.ops s.rows → IsTheGreedyUnder rule prios lat b s
the_greedy_under rule prios lat b s greedy = record {
  greedy = greedy;
  only = λ t other.
      let names : t.ops ≡ s.ops = other.lawful.names ∙ sym greedy.lawful.names in
      let same : (t.ops ≡ s.ops) × (t.rows ≡ s.rows) =
      greedy_same_where (counts_by rule s.ops) (prios s.ops) lat b.ops t.ops s.ops t.rows s.rows
      (subst (λ xs. IsGreedyWhere (counts_by rule xs) (prios xs) lat b.ops t.ops t.rows) names other) greedy in
      table_same t s same.0 same.1;
}

pub the_greedy_by : (prios : List Op → List ℕ) (lat : Latencies) (b : Block) (s : Table)
    → IsGreedyBy (prios s.ops) lat b.ops s.ops s.rows → IsTheGreedyBy prios lat b s
the_greedy_by prios lat b s greedy = the_greedy_under Book prios lat b s greedy

pub the_greedy : (heuristic : Heuristic) (lat : Latencies) (b : Block) (s : Table) → IsGreedyAs heuristic lat b.ops s
    → IsTheGreedy heuristic lat b s
the_greedy heuristic lat b s greedy = the_greedy_by (priorities_by heuristic lat) lat b s greedy

pub greedy_all_same_as : (heuristic : Heuristic) (lat : Latencies) (blocks : List Block) (schedules others : List Table)
    → AreGreedyAs heuristic lat blocks schedules → AreGreedyAs heuristic lat blocks others → others ≡ schedules
greedy_all_same_as heuristic lat [] [] [] greedy other = refl
greedy_all_same_as heuristic lat [] [] (t ∷ others) greedy other = absurd other
greedy_all_same_as heuristic lat [] (s ∷ schedules) others greedy other = absurd greedy
greedy_all_same_as heuristic lat (b ∷ blocks) [] others greedy other = absurd greedy
greedy_all_same_as heuristic lat (b ∷ blocks) (s ∷ schedules) [] greedy other = absurd other
greedy_all_same_as heuristic lat (b ∷ blocks) (s ∷ schedules) (t ∷ others) greedy other =
    cons_same t s others schedules (one_schedule heuristic lat b.ops s t greedy.0 other.0)
    (greedy_all_same_as heuristic lat blocks schedules others greedy.1 other.1)

-- Outcomes

pub keep_outcomes : (heuristic : Heuristic) (lat : Latencies) (blocks : List Block) (schedules : List Table)
    → AreGreedyAs heuristic lat blocks schedules → KeepOutcomes lat blocks schedules
keep_outcomes heuristic lat [] [] greedy memory = refl
keep_outcomes heuristic lat [] (s ∷ schedules) greedy memory = absurd greedy
keep_outcomes heuristic lat (b ∷ blocks) [] greedy memory = absurd greedy
keep_outcomes heuristic lat (b ∷ blocks) (s ∷ schedules) greedy memory =
    grind (arith, cons_same, lawful_same_outcome, keep_outcomes heuristic lat blocks schedules greedy.1 memory)

-- Cycles

-- any schedule ends within the longest latency after its rows
pub cycles_within : (lat : Latencies) (ops : List Op) (rows : List Row) → cycles lat ops rows ≤ length rows + LONGEST_DELAY
cycles_within lat ops rows = grind (arith, fold_max_reached, from_map, issue_cycle_within, short_latency)

latencies_at_most : (lat : Latencies) (ops : List Op) → sum_by (latency lat) ops ≤ LONGEST_DELAY * length ops
latencies_at_most lat [] = omega arith
latencies_at_most lat (op ∷ ops) =
    let head : latency lat op ≤ LONGEST_DELAY = short_latency lat (kind op) in
    let tail : sum_by (latency lat) ops ≤ LONGEST_DELAY * length ops = latencies_at_most lat ops in
    rw (sum_by-cons (latency lat) op ops) (omega arith)

-- renaming adds no operation
renamed_fits : (block : List Op) → length (renamed block) ≤ length block
renamed_fits block = grind (arith, length-renamed_by, length-filter, count_by-le-length)

-- a greedy schedule takes few cycles, whichever pairs count
pub cycles_few_where : (counts : Counts) (prios : List ℕ) (lat : Latencies) (block : List Op) (s : Table)
    → IsGreedyWhere counts prios lat block s.ops s.rows → length block ≤ MAX_OPS → cycles_of lat s ≤ most_cycles
cycles_few_where counts prios lat block s greedy short =
    let busy : cycles lat s.ops s.rows ≤ sum_by (latency lat) s.ops =
    busy_bound_where counts prios lat block s.ops s.rows greedy in
    let most : sum_by (latency lat) s.ops ≤ LONGEST_DELAY * length s.ops = latencies_at_most lat s.ops in
    let longest : length s.ops ≤ length block = rw greedy.lawful.names (renamed_fits block) in
    omega arith

pub total_few : (heuristic : Heuristic) (lat : Latencies) (blocks : List Block) (schedules : List Table)
    → AreGreedyAs heuristic lat blocks schedules → AllByRecursion (λ b. length b.ops ≤ MAX_OPS) blocks
    → total_cycles lat schedules ≤ most_cycles * length blocks
total_few heuristic lat [] [] greedy short = omega arith
total_few heuristic lat [] (s ∷ schedules) greedy short = absurd greedy
total_few heuristic lat (b ∷ blocks) [] greedy short = absurd greedy
total_few heuristic lat (b ∷ blocks) (s ∷ schedules) greedy short =
    let head : cycles_of lat s ≤ most_cycles =
    cycles_few_where all_count (priorities_by heuristic lat s.ops) lat b.ops s greedy.0 short.0 in
    let tail : total_cycles lat schedules ≤ most_cycles * length blocks =
    total_few heuristic lat blocks schedules greedy.1 short.1 in
    rw (sum_by-cons (cycles_of lat) s schedules) (omega arith)

-- what is collected

-- each schedule is that of its block
pub are_greedy : (heuristic : Heuristic) (lat : Latencies) (blocks : List Block) (schedules : List Table)
    → length schedules ≡ length blocks
    → ((i : ℕ) (s : Table) → slice_get schedules i ≡ Some s → IsScheduleOf heuristic lat blocks i s)
    → AreGreedyAs heuristic lat blocks schedules
are_greedy heuristic lat [] [] long each = tt
are_greedy heuristic lat [] (s ∷ schedules) long each = absurd (omega arith)
are_greedy heuristic lat (b ∷ blocks) [] long each = absurd (omega arith)
are_greedy heuristic lat (b ∷ blocks) (s ∷ schedules) long each =
    (each 0 s refl, are_greedy heuristic lat blocks schedules (omega arith) (λ i t at. each (suc i) t at))

pub greedy_long : (heuristic : Heuristic) (lat : Latencies) (blocks : List Block) (schedules : List Table)
    → AreGreedyAs heuristic lat blocks schedules → length schedules ≡ length blocks
greedy_long heuristic lat [] [] greedy = refl
greedy_long heuristic lat [] (s ∷ schedules) greedy = absurd greedy
greedy_long heuristic lat (b ∷ blocks) [] greedy = absurd greedy
greedy_long heuristic lat (b ∷ blocks) (s ∷ schedules) greedy =
    let rest : length schedules ≡ length blocks = greedy_long heuristic lat blocks schedules greedy.1 in omega arith

-- the total of a file's greedy schedules
pub total_small : (heuristic : Heuristic) (lat : Latencies) (blocks : List Block) (schedules : List Table)
    → AreGreedyAs heuristic lat blocks schedules → AreWithinLimits blocks → total_cycles lat schedules < 2 ^ 63
total_small heuristic lat blocks schedules greedy limits = grind (arith, total_few)
