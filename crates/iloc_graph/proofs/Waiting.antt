-- Rows that wait for the nearest pairs wait for all delays, and the other way round.
use Rattle.iloc_graph.proofs.Common.{◌≡◌, ℕ, zero, suc, ◌+◌, ◌-◌, ◌<◌, ◌≤◌, Bool, true, false, not, ◌&&◌, ◌⊎◌, List, length, IsTrue, Contains, sym, refl, ap, ◌∙◌, subst, inl, inr, arith}
use Rattle.iloc_graph.proofs.Common.{and_from, and_parts, false_from_ne_true, false≢true, not-true, not_from_false, or_cases, or_left, or_right, range_with_len, Op, op_at, latency}
use Rattle.iloc_graph.proofs.Common.{Latencies, fold_max_each, fold_max_reached, any_at, contains_from, from_append, from_filter, from_map, from_range, in_filter, in_from, in_left, in_map}
use Rattle.iloc_graph.proofs.Common.{in_range_from, in_right, delay_at_least_where, from_when, in_when, IsDelayPairWhere, delays_where, keeps_order_where, memory_delays_where, reads_stored}
use Rattle.iloc_graph.proofs.Common.{uses_result, when, counts_by, In, Pair, MemoryRule, IsNearBy, NearestPairsImplyAll, WaitsForNearest, comes_after, is_near, is_ordered, is_taken_over}
use Rattle.iloc_graph.proofs.Common.{longest_delay, near_to, nearest_pairs, nearest_to, pair_of, sources, takes_over_by, ◌||◌, rises_range}
use Rattle.iloc_timed.specs.declared.row.Row.{Row}
use Rattle.iloc_timed.specs.Kinds.{is_output, is_store, kind}
use Rattle.iloc_timed.specs.Rows.{issue_cycle}
use Rattle.iloc_rules.specs.declared.memory_rule.MemoryRule.TheVariants.{Address, Book}
use Rattle.iloc_rules.specs.Apart.{by_address}
use Rattle.iloc_rules.specs.Steps.Ways.{GoesBy}
use Rattle.iloc_addresses.proofs.FarPairs as by_addresses
use Rattle.iloc_sched.proofs.KeptEdges.FarPairs as by_the_book
use Rattle.iloc_rules.proofs.Basics.Ordered.{ordered_filter}
use Rattle.iloc_graph.proofs.Lists.{any_none, from_flat_map, in_flat_map}
use Rattle.iloc_graph.proofs.Passed.{as_long, from_unpassed, left_or_passed, unused}

-- by a rule of memory operation j uses the result of operation i, or comes after it with none between that takes its place
abbrev pub IsNearUnder : MemoryRule → Latencies → List Op → ℕ → ℕ → ℕ → Type 0
IsNearUnder rule lat ops i j d =
    (IsTrue (uses_result (op_at ops i) (op_at ops j)) × (d ≡ latency lat (op_at ops i)))
    ⊎ (Contains (memory_delays_where (counts_by rule ops i j) lat (op_at ops i) (op_at ops j)) d
    × ((k : ℕ) → i < k → k < j → takes_over_by rule ops i j k ≡ false))

pub near_or_by_way : (rule : MemoryRule) (lat : Latencies) (ops : List Op) (i j d : ℕ)
    → IsDelayPairWhere (counts_by rule ops) lat ops i j d
    → IsNearUnder rule lat ops i j d ⊎ GoesBy (counts_by rule ops) lat ops i j d
near_or_by_way Book lat ops i j d pair = by_the_book.near_or_by_way lat ops i j d pair
near_or_by_way Address lat ops i j d pair = by_addresses.near_or_by_way (by_address ops) lat ops i j d pair

-- that is the scheduler's, word for word
pub near_under : (rule : MemoryRule) (lat : Latencies) (ops : List Op) (i j d : ℕ) → IsNearBy rule lat ops i j d
    → IsNearUnder rule lat ops i j d
near_under Book lat ops i j d near = near
near_under Address lat ops i j d near = near

pub near_by : (rule : MemoryRule) (lat : Latencies) (ops : List Op) (i j d : ℕ) → IsNearUnder rule lat ops i j d
    → IsNearBy rule lat ops i j d
near_by Book lat ops i j d near = near
near_by Address lat ops i j d near = near

-- a delay by memory or outputs is between operations of which one comes after the other
ordered : (counts : Bool) (lat : Latencies) (i j : Op) (d : ℕ) → Contains (memory_delays_where counts lat i j) d
    → is_ordered counts (kind i) (kind j) ≡ true
ordered counts lat i j d there = grind (arith, from_append, in_from, or_left, from_when, or_right)

module _ (rule : MemoryRule) (lat : Latencies) (ops : List Op) (i j : ℕ) where
  abbrev a : Op
  a = op_at ops i

  abbrev b : Op
  b = op_at ops j

  abbrev counted : Bool
  counted = counts_by rule ops i j

  by_memory : is_taken_over rule ops i j ≡ false → (d : ℕ) → In (memory_delays_where counted lat a b) d
      → (e : ℕ) × In (delays_where counted lat a b) e × IsNearUnder rule lat ops i j e
  by_memory free d there = (
    d,
    in_right (when (uses_result a b) (latency lat a)) (memory_delays_where counted lat a b) d there,
    inr (
      contains_from (memory_delays_where counted lat a b) d there,
      λ k after before. false_from_ne_true (takes_over_by rule ops i j k) (λ t. false≢true (sym free
          ∙ any_at (λ m. takes_over_by rule ops i j m) (range_with_len (i + 1) (j - (i + 1))) k
          (in_range_from (i + 1) (j - (i + 1)) k (omega arith) (omega arith)) t)),
    ),
  )

  -- an operation that is near delays the other
  pub delayed : is_near rule ops j i ≡ true → (d : ℕ) × In (delays_where counted lat a b) d × IsNearUnder rule lat ops i j d
  delayed is = elim (or_cases (uses_result a b) _ is) [
    | inl result ↦ (
      latency lat a,
      in_left (when (uses_result a b) (latency lat a)) (memory_delays_where counted lat a b) (latency lat a)
          (in_when (uses_result a b) (latency lat a) result),
      inl (result, refl),
    )
    | inr memory ↦
        let both = and_parts (is_ordered counted (kind a) (kind b)) (not (is_taken_over rule ops i j)) memory in
        elim (or_cases (counted && reads_stored (kind a) (kind b)) (keeps_order_where counted (kind a) (kind b)) both.0) [
          | inl reads ↦ by_memory (not-true (is_taken_over rule ops i j) both.1) (latency lat a)
              (in_left (when (counted && reads_stored (kind a) (kind b)) (latency lat a)) (when (keeps_order_where counted (kind a) (kind b)) 1)
              (latency lat a) (in_when (counted && reads_stored (kind a) (kind b)) (latency lat a) reads))
          | inr keeps ↦ by_memory (not-true (is_taken_over rule ops i j) both.1) 1
              (in_right (when (counted && reads_stored (kind a) (kind b)) (latency lat a)) (when (keeps_order_where counted (kind a) (kind b)) 1) 1
              (in_when (keeps_order_where counted (kind a) (kind b)) 1 keeps))
        ]
  ]

-- the longest delay is one of them, where there is one
longest_is : (counts : Bool) (lat : Latencies) (i j : Op) (d : ℕ) → In (delays_where counts lat i j) d
    → Contains (delays_where counts lat i j) (longest_delay counts lat i j)
longest_is counts lat i j d there = grind (arith, fold_max_reached, delay_at_least_where, contains_from, fold_max_each)

-- the operations of a near pair are near
pub near_is : (rule : MemoryRule) (lat : Latencies) (ops : List Op) (i j d : ℕ) → IsNearUnder rule lat ops i j d → is_near rule ops j i ≡ true
near_is rule lat ops i j d near = grind (arith, or_left, or_right, and_from, ordered, not_from_false, any_none, from_range)

pub in_nearest : (rule : MemoryRule) (lat : Latencies) (ops : List Op) (i j : ℕ) → j < length ops → In (sources rule ops j) i
    → Contains (nearest_pairs rule lat ops) (pair_of rule lat ops j i)
in_nearest rule lat ops i j within there =
    contains_from (nearest_pairs rule lat ops) (pair_of rule lat ops j i)
    (in_flat_map (nearest_to rule lat ops) (range_with_len 0 (length ops)) j (pair_of rule lat ops j i)
    (in_range_from 0 (length ops) j (omega arith) (omega arith))
    (in_map (pair_of rule lat ops j) (sources rule ops j) i there))

-- a delay by way of one that passes the first
module _ (rule : MemoryRule) (lat : Latencies) (ops : List Op) (i j k d : ℕ) (pair : IsDelayPairWhere (counts_by rule ops) lat ops i j d)
    (source : (is_store (kind (op_at ops i)) || is_output (kind (op_at ops i))) ≡ true) (after : i < k)
    (passes : comes_after rule ops k i ≡ true) (there : In (near_to rule ops j) k) where
  abbrev held : In (range_with_len 0 j) k × (is_near rule ops j k ≡ true)
  held = from_filter (is_near rule ops j) (range_with_len 0 j) k there

  abbrev next : (e : ℕ) × In (delays_where (counts_by rule ops k j) lat (op_at ops k) (op_at ops j)) e × IsNearUnder rule lat ops k j e
  next = delayed rule lat ops k j held.1

  by_memory_only : In (memory_delays_where (counts_by rule ops i j) lat (op_at ops i) (op_at ops j)) d
  by_memory_only =
      elim (from_append (when (uses_result (op_at ops i) (op_at ops j)) (latency lat (op_at ops i)))
      (memory_delays_where (counts_by rule ops i j) lat (op_at ops i) (op_at ops j)) d (in_from _ _ pair.delay)) [
        | inl result ↦ absurd (false≢true (sym (unused (op_at ops i) (op_at ops j) source)
            ∙ (from_when (uses_result (op_at ops i) (op_at ops j)) (latency lat (op_at ops i)) d result).0))
        | inr memory ↦ memory
      ]

  abbrev first : (f : ℕ) × In (memory_delays_where (counts_by rule ops i k) lat (op_at ops i) (op_at ops k)) f × (d ≤ f + next.0)
  first =
      as_long lat (counts_by rule ops i k) (counts_by rule ops k j) (counts_by rule ops i j) (kind (op_at ops i)) (kind (op_at ops k))
      (kind (op_at ops j)) d next.0 source passes by_memory_only
      (elim (from_append (when (uses_result (op_at ops k) (op_at ops j)) (latency lat (op_at ops k)))
      (memory_delays_where (counts_by rule ops k j) lat (op_at ops k) (op_at ops j)) next.0 next.1) [
        | inl result ↦
            inl (sym (from_when (uses_result (op_at ops k) (op_at ops j)) (latency lat (op_at ops k)) next.0 result).1)
        | inr memory ↦ inr memory
      ])

  passed_by : GoesBy (counts_by rule ops) lat ops i j d
  passed_by =
      let before : (0 ≤ k) × (k < 0 + j) = from_range 0 j k held.0 in
      let within : j < length ops = pair.within in
      record {
        way = k;
        first_delay = first.0;
        second_delay = next.0;
        first = record {
          order = after;
          within = omega arith;
          delay = contains_from (delays_where (counts_by rule ops i k) lat (op_at ops i) (op_at ops k)) first.0
              (in_right (when (uses_result (op_at ops i) (op_at ops k)) (latency lat (op_at ops i))) _ first.0 first.1);
        };
        second = record {
          order = omega arith;
          within = within;
          delay = contains_from (delays_where (counts_by rule ops k j) lat (op_at ops k) (op_at ops j)) next.0 next.1;
        };
        enough = first.2;
      }

-- an edge is drawn for a delay pair, or it goes by way of an operation between
pub drawn_or_by_way : (rule : MemoryRule) (lat : Latencies) (ops : List Op) (i j d : ℕ)
    → IsDelayPairWhere (counts_by rule ops) lat ops i j d
    → In (sources rule ops j) i ⊎ GoesBy (counts_by rule ops) lat ops i j d
drawn_or_by_way rule lat ops i j d pair = elim (near_or_by_way rule lat ops i j d pair) [
  | inl near ↦
      let order : i < j = pair.order in
      elim (left_or_passed rule ops (near_to rule ops j) i
      (ordered_filter (λ (x y : ℕ). x < y) (is_near rule ops j) (range_with_len 0 j) (rises_range 0 j))
      (in_filter (is_near rule ops j) (range_with_len 0 j) i (in_range_from 0 j i (omega arith) (omega arith))
      (near_is rule lat ops i j d near))) [
        | inl left ↦ inl left
        | inr passed ↦ inr (passed_by rule lat ops i j passed.way d pair passed.source passed.after passed.passes passed.there)
      ]
  | inr by ↦ inr by
]

module _ (rule : MemoryRule) (lat : Latencies) (ops : List Op) (rows : List Row) (waits : WaitsForNearest rule lat ops rows) where
  near_waits : (i j d : ℕ) → IsDelayPairWhere (counts_by rule ops) lat ops i j d → In (sources rule ops j) i → issue_cycle rows i + d ≤ issue_cycle rows j
  near_waits i j d pair near =
      let most : d ≤ longest_delay (counts_by rule ops i j) lat (op_at ops i) (op_at ops j) =
      fold_max_each 0 (delays_where (counts_by rule ops i j) lat (op_at ops i) (op_at ops j)) d
      (in_from (delays_where (counts_by rule ops i j) lat (op_at ops i) (op_at ops j)) d pair.delay) in
      let over : issue_cycle rows i + longest_delay (counts_by rule ops i j) lat (op_at ops i) (op_at ops j) ≤ issue_cycle rows j =
      waits i j (longest_delay (counts_by rule ops i j) lat (op_at ops i) (op_at ops j))
      (in_nearest rule lat ops i j pair.within near) in
      omega arith

  waits_within : (n i j d : ℕ) → j ≤ i + n → IsDelayPairWhere (counts_by rule ops) lat ops i j d → issue_cycle rows i + d ≤ issue_cycle rows j
  waits_within zero i j d few pair = let order : i < j = pair.order in absurd (omega arith)
  waits_within (suc n) i j d few pair = elim (drawn_or_by_way rule lat ops i j d pair) [
    | inl near ↦ near_waits i j d pair near
    | inr by ↦
        let after : i < by.way = by.first.order in
        let before : by.way < j = by.second.order in
        let first : issue_cycle rows i + by.first_delay ≤ issue_cycle rows by.way =
        waits_within n i by.way by.first_delay (omega arith) by.first in
        let second : issue_cycle rows by.way + by.second_delay ≤ issue_cycle rows j =
        waits_within n by.way j by.second_delay (omega arith) by.second in
        let enough : d ≤ by.first_delay + by.second_delay = by.enough in
        omega arith
  ]

-- what is one of the nearest pairs is a delay pair
pub nearest_is_delay : (rule : MemoryRule) (lat : Latencies) (ops : List Op) (i j d : ℕ)
    → Contains (nearest_pairs rule lat ops) (record { first = i; second = j; delay = d }) → IsDelayPairWhere (counts_by rule ops) lat ops i j d
nearest_is_delay rule lat ops i j d there =
    let pair : Pair = record { first = i; second = j; delay = d } in
    let to = from_flat_map (nearest_to rule lat ops) (range_with_len 0 (length ops)) pair (in_from (nearest_pairs rule lat ops) pair there) in
    let from = from_map (pair_of rule lat ops to.0) (sources rule ops to.0) pair to.2 in
    let held = from_filter (is_near rule ops to.0) (range_with_len 0 to.0) from.0
    (from_unpassed rule ops (near_to rule ops to.0) from.0 from.1) in
    let within : (0 ≤ to.0) × (to.0 < 0 + length ops) = from_range 0 (length ops) to.0 to.1 in
    let before : (0 ≤ from.0) × (from.0 < 0 + to.0) = from_range 0 to.0 from.0 held.0 in
    let first : from.0 ≡ i = ap (λ (p : Pair). p.first) from.2 in
    let second : to.0 ≡ j = ap (λ (p : Pair). p.second) from.2 in
    let some = delayed rule lat ops from.0 to.0 held.1 in
    let found : Contains (delays_where (counts_by rule ops from.0 to.0) lat (op_at ops from.0) (op_at ops to.0))
    (pair_of rule lat ops to.0 from.0).delay =
    longest_is (counts_by rule ops from.0 to.0) lat (op_at ops from.0) (op_at ops to.0) some.0 some.1 in
    let same : (pair_of rule lat ops to.0 from.0).delay ≡ d = ap (λ (p : Pair). p.delay) from.2 in
    record {
      order = omega arith;
      within = omega arith;
      delay = subst (λ b. Contains (delays_where (counts_by rule ops i b) lat (op_at ops i) (op_at ops b)) d) second
          (subst (λ a. Contains (delays_where (counts_by rule ops a to.0) lat (op_at ops a) (op_at ops to.0)) d) first
          (subst (λ e. Contains (delays_where (counts_by rule ops from.0 to.0) lat (op_at ops from.0) (op_at ops to.0)) e) same
          found));
    }

pub nearest_imply_all : NearestPairsImplyAll
nearest_imply_all rule lat ops rows = (
  λ waits i j d pair. waits_within rule lat ops rows waits j i j d (omega arith) pair,
  λ waits i j d there. waits i j d (nearest_is_delay rule lat ops i j d there),
)
