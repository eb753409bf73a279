-- No lawful schedule takes fewer cycles than `least` says: `laws::least_bounds_the_cycles`, and so by each rule of memory.
use Rattle.iloc_bound.proofs.Common.{ℕ, ◌+◌, ◌<◌, ◌≤◌, Bool, true, ◌&&◌, List, map, length, nat_le, slice_index, filter, subst, arith, and_parts, range_with_len, Op, is_load, is_memory, is_mult, is_output, IsTable, issue_cycle, Kind, Latencies, Row, least_of_under, needed_after, needed_by, of_kind, tails_under, MemoryRule, Address, Book}
use Rattle.iloc_timed.specs.Cycles.{cycles}
use Rattle.iloc_rules.specs.Apart.{by_address}
use Rattle.iloc_rules.specs.Lawful.{IsLawfulWhere}
use Rattle.iloc_rules.specs.Rule.{counts_by}
use Rattle.iloc_rules.specs.Starts.{start_where, starts_where}
use Rattle.iloc_bound.specs.Laws.{LeastBoundsTheCycles, LeastBoundsTheCyclesByRule, BoundsProveTheOptimum}
use Rattle.iloc_rules.proofs.Bounds.PriorityBound.{priority_bound_where}
use Rattle.iloc_rules.proofs.DelayPairs.WaitedFor.{WaitsWhere}
use Rattle.iloc_rules.proofs.PriorityValues.Starts.{start_least_where}
use Rattle.iloc_timed.proofs.Arrivals.{arrival_le_cycles}
use Rattle.iloc_bound.proofs.Counting.{count-filter, count-map, count-mono, at_least}
use Rattle.iloc_bound.proofs.RowsHold.{Holds, is_kind, holds_memory, holds_products, holds_outputs, holds_all, holds_loads}
use Rattle.iloc_bound.proofs.TailBound.{key, crowd_of, tail_within}

-- by a rule an operation is issued so early that its tail is left
pub tail_within_under : (rule : MemoryRule) (lat : Latencies) (ops : List Op) (rows : List Row) → IsTable ops rows
    → WaitsWhere (counts_by rule ops) lat ops rows → (i : ℕ) → i < length ops
    → issue_cycle rows i + slice_index (tails_under rule lat ops) i ≤ cycles lat ops rows
tail_within_under Book lat ops rows table waits i under = tail_within lat ops (cycles lat ops rows) (issue_cycle rows)
    (record {
      ends = arrival_le_cycles lat ops rows;
      waits = waits;
      crowd = crowd_of is_load 1 ops rows table (holds_loads ops);
    }) i under
tail_within_under Address lat ops rows table waits i under = priority_bound_where (by_address ops) lat ops rows waits i under

-- The operations of a schedule, with starts and tails that bound their cycles of issue
module _ (lat : Latencies) (ops : List Op) (rows : List Row) (table : IsTable ops rows) (starts tails : List ℕ)
    (begun : (i : ℕ) → i < length ops → slice_index starts i ≤ issue_cycle rows i)
    (left : (i : ℕ) → i < length ops → issue_cycle rows i + slice_index tails i ≤ cycles lat ops rows)
    (test : Kind → Bool) (width : ℕ) (holds : Holds test width ops) (some : 0 < width) where
  after_bound : (a : ℕ) → needed_after a width test starts tails ops ≤ cycles lat ops rows
  after_bound a =
      let t : ℕ → ℕ = issue_cycle rows in
      let limit : ℕ = cycles lat ops rows in
      let late : ℕ → Bool = λ i. nat_le a (slice_index starts i) in
      let q : ℕ → Bool = λ i. is_kind test ops i && late i in
      let bound : 0 + needed_after a width test starts tails ops ≤ limit =
      key width (is_kind test ops) q (length ops) t (slice_index tails) 0 a limit
      (map (slice_index tails) (filter late (of_kind test ops))) some (crowd_of test width ops rows table holds)
      (λ i under passes.
      let parts = and_parts (is_kind test ops i) (late i) passes in
      let early = begun i under in
      (parts.0, omega (arith, at_least a (slice_index starts i) parts.1), left i under))
      (λ b.
      let long : ℕ → Bool = λ i. nat_le b (slice_index tails i) in
      let mapped = count-map (λ x. nat_le b x) (slice_index tails) (filter late (of_kind test ops)) in
      let kept = count-filter long late (of_kind test ops) in
      let picked = count-filter (λ i. late i && long i) (is_kind test ops) (range_with_len 0 (length ops)) in
      let same = count-mono (λ i. is_kind test ops i && (late i && long i)) (λ i. q i && long i) (range_with_len 0 (length ops))
      (λ i there. grind arith) in
      omega arith)
      (omega arith) in
      omega arith

  needed_bound : needed_by width test starts tails ops ≤ cycles lat ops rows
  needed_bound = grind (arith, after_bound)

ruled_bound : (rule : MemoryRule) (lat : Latencies) (ops : List Op) (rows : List Row) → IsTable ops rows
    → WaitsWhere (counts_by rule ops) lat ops rows → least_of_under rule lat ops ≤ cycles lat ops rows
ruled_bound rule lat ops rows table waits =
    let counts = counts_by rule ops in
    let begun : (i : ℕ) → i < length ops → start_where counts lat ops i ≤ issue_cycle rows i =
    start_least_where counts lat ops (issue_cycle rows) (λ i j d pair. omega (arith, waits i j d pair)) in
    let left = tail_within_under rule lat ops rows table waits in
    let needs = needed_bound lat ops rows table (starts_where counts lat ops) (tails_under rule lat ops) begun left in
    omega (
      arith,
      needs is_memory 1 (holds_memory ops) (omega arith),
      needs is_mult 1 (holds_products ops) (omega arith),
      needs is_output 1 (holds_outputs ops) (omega arith),
      needs (λ k. true) 2 (holds_all ops) (omega arith),
    )

pub ruled_least_bound : LeastBoundsTheCyclesByRule
ruled_least_bound rule lat block ops rows lawful =
    subst (λ os. least_of_under rule lat os ≤ cycles lat ops rows) lawful.names
    (ruled_bound rule lat ops rows lawful.table lawful.waits)

pub least_bound : LeastBoundsTheCycles
least_bound = ruled_least_bound Book

pub optimum : BoundsProveTheOptimum
optimum = grind (arith, least_bound)
