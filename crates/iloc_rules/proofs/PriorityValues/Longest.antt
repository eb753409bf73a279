-- A priority is the greatest of latency and d + prio(j) over the delay pairs; for `priorities` and the bounds.
use Rattle.iloc_rules.proofs.Common.{◌≡◌, ℕ, zero, suc, ◌+◌, ◌-◌, ◌*◌, ◌<◌, ◌≤◌, max, ◌⊎◌, List, [], ◌∷◌, map, length, drop, slice_index, fold, sym, refl, ap, inl, inr, arith, Op, op_at, le_fold_max, short_latency, kind, latency, Latencies, IsDelayPair, delays, priorities, priority, reaches, IsChainOut, In}
use Rattle.iloc_rules.proofs.Basics.Members.{contains_from, in_from, in_left, in_right, from_append, in_map, from_map}
use Rattle.iloc_rules.proofs.Basics.Maxima.{fold_max_each, fold_max_reached}
use Rattle.iloc_rules.proofs.DelayPairs.DelayBounds.{short_delay}
use Rattle.iloc_rules.proofs.PriorityValues.Chains.{least}

pub length-priorities : (lat : Latencies) (ops : List Op) → length (priorities lat ops) ≡ length ops
length-priorities lat [] = refl
length-priorities lat (op ∷ later) = ap suc (length-priorities lat later)

pub in_reaches : (lat : Latencies) (op : Op) (later : List Op) (prios : List ℕ) (j d : ℕ) → length prios ≡ length later
    → j < length later → In (delays lat op (op_at later j)) d
    → In (reaches lat op later prios) (d + slice_index prios j)
in_reaches lat op [] prios j d same within there = absurd (omega arith)
in_reaches lat op (next ∷ later) [] j d same within there = absurd (omega arith)
in_reaches lat op (next ∷ later) (prio ∷ prios) zero d same within there =
    in_left (map (λ e. e + prio) (delays lat op next)) (reaches lat op later prios) (d + prio)
    (in_map (λ e. e + prio) (delays lat op next) d there)
in_reaches lat op (next ∷ later) (prio ∷ prios) (suc j) d same within there =
    grind (arith, in_right, in_reaches lat op later prios j d (omega arith) (omega arith) there)

-- a delay to a later operation with its priority
pub record Reached (lat : Latencies) (op : Op) (later : List Op) (prios : List ℕ) (x : ℕ) : Type 0 where
  pub to : ℕ
  pub delay : ℕ
  pub within : to < length later
  pub there : In (delays lat op (op_at later to)) delay
  pub is : x ≡ delay + slice_index prios to

pub from_reaches : (lat : Latencies) (op : Op) (later : List Op) (prios : List ℕ) (x : ℕ)
    → In (reaches lat op later prios) x → Reached lat op later prios x
from_reaches lat op [] prios x there = absurd there
from_reaches lat op (next ∷ later) [] x there = absurd there
from_reaches lat op (next ∷ later) (prio ∷ prios) x there =
    elim (from_append (map (λ e. e + prio) (delays lat op next)) (reaches lat op later prios) x there) [
      | inl here ↦
          let at = from_map (λ e. e + prio) (delays lat op next) x here in
          record { to = 0; delay = at.0; within = omega arith; there = at.1; is = sym at.2 }
      | inr rest ↦ further (from_reaches lat op later prios x rest)
    ]
  where
    further : Reached lat op later prios x → Reached lat op (next ∷ later) (prio ∷ prios) x
    further r = record {
      to = suc r.to;
      delay = r.delay;
      within = let below : r.to < length later = r.within in
          omega arith;
      there = r.there;
      is = r.is;
    }

-- a delay pair of what follows the first operation
pub inner_pair : (lat : Latencies) (op : Op) (later : List Op) (i j d : ℕ) → IsDelayPair lat (op ∷ later) (suc i) (suc j) d
    → IsDelayPair lat later i j d
inner_pair lat op later i j d pair = grind arith

pub outer_pair : (lat : Latencies) (op : Op) (later : List Op) (i j d : ℕ) → IsDelayPair lat later i j d
    → IsDelayPair lat (op ∷ later) (suc i) (suc j) d
outer_pair lat op later i j d pair = grind arith

-- the greatest of the latency and of d + value(j) over the delay pairs (i, j, d)
abbrev pub chain_of : Latencies → List Op → List ℕ → ℕ → ℕ
chain_of lat ops values i = fold max (latency lat (op_at ops i))
    (reaches lat (op_at ops i) (drop (suc i) ops) (drop (suc i) values))

pub chain_own : (lat : Latencies) (ops : List Op) (values : List ℕ) (i : ℕ)
    → latency lat (op_at ops i) ≤ chain_of lat ops values i
chain_own lat ops values i = grind (arith, le_fold_max)

pub chain_pairs : (lat : Latencies) (ops : List Op) (values : List ℕ) → length values ≡ length ops → (i j d : ℕ)
    → IsDelayPair lat ops i j d → d + slice_index values j ≤ chain_of lat ops values i
chain_pairs lat [] values size i j d pair = absurd (let within : j < 0 = pair.within in omega arith)
chain_pairs lat (op ∷ later) [] size i j d pair = absurd (omega arith)
chain_pairs lat (op ∷ later) (v ∷ values) size i zero d pair = absurd (let order : i < 0 = pair.order in omega arith)
chain_pairs lat (op ∷ later) (v ∷ values) size zero (suc j) d pair =
    fold_max_each (latency lat op) (reaches lat op later values) (d + slice_index values j)
    (in_reaches lat op later values j d (omega arith) (omega arith)
    (in_from (delays lat op (op_at later j)) d pair.delay))
chain_pairs lat (op ∷ later) (v ∷ values) size (suc i) (suc j) d pair =
    chain_pairs lat later values (omega arith) i j d (inner_pair lat op later i j d pair)

-- it is the latency, or d + value(j) of a delay pair
abbrev pub IsOne : Latencies → List Op → List ℕ → ℕ → ℕ → Type 0
IsOne lat ops values i value = (value ≡ latency lat (op_at ops i))
    ⊎ ((j : ℕ) × (d : ℕ) × IsDelayPair lat ops i j d × (value ≡ d + slice_index values j))

pub chain_reached : (lat : Latencies) (ops : List Op) (values : List ℕ) → length values ≡ length ops → (i : ℕ)
    → i < length ops → IsOne lat ops values i (chain_of lat ops values i)
chain_reached lat [] values size i within = absurd (omega arith)
chain_reached lat (op ∷ later) [] size i within = absurd (omega arith)
chain_reached lat (op ∷ later) (v ∷ values) size zero within = elim
    (fold_max_reached (latency lat op) (reaches lat op later values)) [
      | inl own ↦ inl own
      | inr there ↦
          let r = from_reaches lat op later values (chain_of lat (op ∷ later) (v ∷ values) 0) there in
          inr (
            suc r.to,
            r.delay,
            grind (arith, contains_from),
            r.is,
          )
    ]
chain_reached lat (op ∷ later) (v ∷ values) size (suc i) within =
    elim (chain_reached lat later values (omega arith) i (omega arith)) [
      | inl own ↦ inl own
      | inr pair ↦ inr (suc pair.0, pair.1, outer_pair lat op later i pair.0 pair.1 pair.2, pair.3)
    ]

priority_value : (lat : Latencies) (ops : List Op) (i : ℕ) → i < length ops
    → priority lat ops i ≡ chain_of lat ops (priorities lat ops) i
priority_value lat [] i within = absurd (omega arith)
priority_value lat (op ∷ later) zero within = refl
priority_value lat (op ∷ later) (suc i) within = priority_value lat later i (omega arith)

pub is_priority : (lat : Latencies) (ops : List Op) → IsChainOut lat ops (priority lat ops) (priority lat ops)
is_priority lat ops =
    let size : length (priorities lat ops) ≡ length ops = length-priorities lat ops in
    record {
      own = grind (arith, chain_own, least, priority_value);
      pairs = λ i j d pair.
          let least = chain_pairs lat ops (priorities lat ops) size i j d pair in
          grind (arith, priority_value);
      reached = grind (arith, chain_reached, priority_value);
      whole = λ i within. omega arith;
    }

-- a priority is at most what is at least the latency and keeps the pairs
pub priority_least : (lat : Latencies) (ops : List Op) (other : ℕ → ℕ)
    → ((i : ℕ) → i < length ops → latency lat (op_at ops i) ≤ other i)
    → ((i j d : ℕ) → IsDelayPair lat ops i j d → d + other j ≤ other i) → (i : ℕ) → i < length ops
    → priority lat ops i ≤ other i
priority_least lat ops other own pairs =
    least (length ops) (IsDelayPair lat ops) (λ i. latency lat (op_at ops i)) (priority lat ops) (is_priority lat ops)
    (λ i. length ops - i) (λ i j d pair. (pair.within, omega (arith, pair.order, pair.within))) other own pairs

-- so it is at most 16 cycles for each operation
pub priority_most : (lat : Latencies) (ops : List Op) (i : ℕ) → i < length ops → priority lat ops i ≤ 16 * length ops
priority_most lat ops i below =
    let most = priority_least lat ops (λ k. 16 * (length ops - k))
    (λ k within. omega (arith, short_latency lat (kind (op_at ops k))))
    (λ k j d pair. omega (arith, pair.order, pair.within, short_delay lat (op_at ops k) (op_at ops j) d pair.delay)) i below in
    omega arith
