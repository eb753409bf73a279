-- Where fewer count there are fewer delays: `laws::fewer_count_more_is_lawful`.
use Rattle.iloc_rules.proofs.Common.{◌≡◌, ℕ, ◌≤◌, Bool, true, false, ◌&&◌, List, Contains, refl, inl, inr, and_from, and_parts, or_right, Op, op_at, is_output, kind, latency, Latencies, Row, Counts, delays, delays_where, keeps_order, keeps_order_where, memory_delays_where, reads_stored, uses_result, when, In}
use Rattle.iloc_rules.specs.Lawful.{IsLawfulWhere}
use Rattle.iloc_rules.proofs.Basics.Members.{in_from, contains_from, in_left, in_right, from_append}
use Rattle.iloc_rules.proofs.DelayPairs.DelayBounds.{in_when, from_when, delay_at_least, delay_at_most}

pub more_delays : (counts more : Bool) (lat : Latencies) (i j : Op) (d : ℕ) → (counts ≡ true → more ≡ true)
    → In (delays_where counts lat i j) d → In (delays_where more lat i j) d
more_delays true more lat i j d implied there = rw (implied refl) there
more_delays false more lat i j d implied there =
    let by_use = when (uses_result i j) (latency lat i) in
    elim (from_append by_use (memory_delays_where false lat i j) d there) [
      | inl used ↦ in_left by_use (memory_delays_where more lat i j) d used
      | inr ordered ↦
          let outputs : Bool = is_output (kind i) && is_output (kind j) in
          let is = from_when (outputs && keeps_order (kind i) (kind j)) 1 d ordered in
          let both = and_parts outputs (keeps_order (kind i) (kind j)) is.0 in
          in_right by_use (memory_delays_where more lat i j) d
          (in_right (when (more && reads_stored (kind i) (kind j)) (latency lat i))
          (when (keeps_order_where more (kind i) (kind j)) 1) d
          (rw (← is.1) (in_when (keeps_order_where more (kind i) (kind j)) 1
          (and_from _ _ (or_right more outputs both.0) both.1))))
    ]

among_all : (counts : Bool) (lat : Latencies) (i j : Op) (d : ℕ) → Contains (delays_where counts lat i j) d
    → Contains (delays lat i j) d
among_all counts lat i j d there =
    contains_from (delays lat i j) d (more_delays counts true lat i j d (λ given. refl) (in_from _ d there))

pub delay_at_least_where : (counts : Bool) (lat : Latencies) (i j : Op) (d : ℕ)
    → Contains (delays_where counts lat i j) d → 1 ≤ d
delay_at_least_where counts lat i j d there = delay_at_least lat i j d (among_all counts lat i j d there)

pub delay_at_most_where : (counts : Bool) (lat : Latencies) (i j : Op) (d : ℕ) → Contains (delays_where counts lat i j) d
    → d ≤ latency lat i
delay_at_most_where counts lat i j d there = delay_at_most lat i j d (among_all counts lat i j d there)

pub lawful_where_fewer : (counts more : Counts) (lat : Latencies) (block ops : List Op) (rows : List Row)
    → ((i j : ℕ) → counts i j ≡ true → more i j ≡ true)
    → IsLawfulWhere more lat block ops rows → IsLawfulWhere counts lat block ops rows
lawful_where_fewer counts more lat block ops rows implied lawful = record {
  names = lawful.names;
  table = lawful.table;
  waits = λ i j d pair. lawful.waits i j d record {
    order = pair.order;
    within = pair.within;
    delay = contains_from (delays_where (more i j) lat (op_at ops i) (op_at ops j)) d
        (more_delays (counts i j) (more i j) lat (op_at ops i) (op_at ops j) d (implied i j)
        (in_from (delays_where (counts i j) lat (op_at ops i) (op_at ops j)) d pair.delay));
  };
}
