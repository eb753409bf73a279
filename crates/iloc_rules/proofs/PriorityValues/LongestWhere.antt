-- Whichever count, a priority is the greatest of latency and d + prio(j) over the delay pairs: `laws::counts_bound_the_cycles`.
use Rattle.iloc_rules.proofs.Common.{◌≡◌, ℕ, zero, suc, ◌+◌, ◌-◌, ◌*◌, ◌<◌, ◌≤◌, max, Bool, true, ◌⊎◌, List, [], ◌∷◌, map, length, drop, slice_index, fold, sym, refl, ap, inl, inr, arith, Op, op_at, le_fold_max, short_latency, kind, latency, Latencies, Counts, IsDelayPairWhere, all_count, delays_where, after_first, priorities, priorities_where, priority_where, reaches, reaches_where, IsChain, In}
use Rattle.iloc_rules.proofs.Basics.Members.{contains_from, in_from, in_left, in_right, from_append, in_map, from_map}
use Rattle.iloc_rules.proofs.Basics.Maxima.{fold_max_each, fold_max_reached}
use Rattle.iloc_rules.proofs.DelayPairs.DelayBounds.{short_delay_where}
use Rattle.iloc_rules.proofs.PriorityValues.Chains.{least}

pub length_where : (counts : Counts) (lat : Latencies) (ops : List Op) → length (priorities_where counts lat ops) ≡ length ops
length_where counts lat [] = refl
length_where counts lat (op ∷ later) = ap suc (length_where (after_first counts) lat later)

pub in_reaches : (row : ℕ → Bool) (lat : Latencies) (op : Op) (later : List Op) (prios : List ℕ) (j d : ℕ)
    → length prios ≡ length later
    → j < length later → In (delays_where (row j) lat op (op_at later j)) d
    → In (reaches_where row lat op later prios) (d + slice_index prios j)
in_reaches row lat op [] prios j d same within there = absurd (omega arith)
in_reaches row lat op (next ∷ later) [] j d same within there = absurd (omega arith)
in_reaches row lat op (next ∷ later) (prio ∷ prios) zero d same within there =
    in_left (map (λ e. e + prio) (delays_where (row 0) lat op next)) (reaches_where (λ k. row (suc k)) lat op later prios) (d + prio)
    (in_map (λ e. e + prio) (delays_where (row 0) lat op next) d there)
in_reaches row lat op (next ∷ later) (prio ∷ prios) (suc j) d same within there =
    grind (arith, in_right, in_reaches (λ k. row (suc k)) lat op later prios j d (omega arith) (omega arith) there)

-- a delay to a later operation with its priority
pub record Reached (row : ℕ → Bool) (lat : Latencies) (op : Op) (later : List Op) (prios : List ℕ) (x : ℕ) : Type 0 where
  pub to : ℕ
  pub delay : ℕ
  pub within : to < length later
  pub there : In (delays_where (row to) lat op (op_at later to)) delay
  pub is : x ≡ delay + slice_index prios to

pub from_reaches : (row : ℕ → Bool) (lat : Latencies) (op : Op) (later : List Op) (prios : List ℕ) (x : ℕ)
    → In (reaches_where row lat op later prios) x → Reached row lat op later prios x
from_reaches row lat op [] prios x there = absurd there
from_reaches row lat op (next ∷ later) [] x there = absurd there
from_reaches row lat op (next ∷ later) (prio ∷ prios) x there =
    elim (from_append (map (λ e. e + prio) (delays_where (row 0) lat op next)) (reaches_where (λ k. row (suc k)) lat op later prios) x there) [
      | inl here ↦
          let at = from_map (λ e. e + prio) (delays_where (row 0) lat op next) x here in
          record { to = 0; delay = at.0; within = omega arith; there = at.1; is = sym at.2 }
      | inr rest ↦ further (from_reaches (λ k. row (suc k)) lat op later prios x rest)
    ]
  where
    further : Reached (λ k. row (suc k)) lat op later prios x → Reached row lat op (next ∷ later) (prio ∷ prios) x
    further r = record {
      to = suc r.to;
      delay = r.delay;
      within = let below : r.to < length later = r.within in
          omega arith;
      there = r.there;
      is = r.is;
    }

-- a delay pair of what follows the first operation
pub inner_pair : (counts : Counts) (lat : Latencies) (op : Op) (later : List Op) (i j d : ℕ)
    → IsDelayPairWhere counts lat (op ∷ later) (suc i) (suc j) d
    → IsDelayPairWhere (after_first counts) lat later i j d
inner_pair counts lat op later i j d pair = grind arith

pub outer_pair : (counts : Counts) (lat : Latencies) (op : Op) (later : List Op) (i j d : ℕ)
    → IsDelayPairWhere (after_first counts) lat later i j d
    → IsDelayPairWhere counts lat (op ∷ later) (suc i) (suc j) d
outer_pair counts lat op later i j d pair = grind arith

-- which of the operations after operation i count with it
abbrev pub row_of : Counts → ℕ → ℕ → Bool
row_of counts zero k = counts 0 (suc k)
row_of counts (suc i) k = row_of (after_first counts) i k

-- the greatest of the latency and of d + value(j) over the delay pairs (i, j, d)
abbrev pub chain_of : Counts → Latencies → List Op → List ℕ → ℕ → ℕ
chain_of counts lat ops values i = fold max (latency lat (op_at ops i))
    (reaches_where (row_of counts i) lat (op_at ops i) (drop (suc i) ops) (drop (suc i) values))

pub chain_own : (counts : Counts) (lat : Latencies) (ops : List Op) (values : List ℕ) (i : ℕ)
    → latency lat (op_at ops i) ≤ chain_of counts lat ops values i
chain_own counts lat ops values i = grind (arith, le_fold_max)

pub chain_pairs : (counts : Counts) (lat : Latencies) (ops : List Op) (values : List ℕ) → length values ≡ length ops
    → (i j d : ℕ)
    → IsDelayPairWhere counts lat ops i j d → d + slice_index values j ≤ chain_of counts lat ops values i
chain_pairs counts lat [] values size i j d pair = absurd (let within : j < 0 = pair.within in omega arith)
chain_pairs counts lat (op ∷ later) [] size i j d pair = absurd (omega arith)
chain_pairs counts lat (op ∷ later) (v ∷ values) size i zero d pair = absurd (let order : i < 0 = pair.order in omega arith)
chain_pairs counts lat (op ∷ later) (v ∷ values) size zero (suc j) d pair =
    fold_max_each (latency lat op) (reaches_where (λ k. counts 0 (suc k)) lat op later values) (d + slice_index values j)
    (in_reaches (λ k. counts 0 (suc k)) lat op later values j d (omega arith) (omega arith)
    (in_from (delays_where (counts 0 (suc j)) lat op (op_at later j)) d pair.delay))
chain_pairs counts lat (op ∷ later) (v ∷ values) size (suc i) (suc j) d pair =
    chain_pairs (after_first counts) lat later values (omega arith) i j d (inner_pair counts lat op later i j d pair)

-- it is the latency, or d + value(j) of a delay pair
abbrev pub IsOne : Counts → Latencies → List Op → List ℕ → ℕ → ℕ → Type 0
IsOne counts lat ops values i value = (value ≡ latency lat (op_at ops i))
    ⊎ ((j : ℕ) × (d : ℕ) × IsDelayPairWhere counts lat ops i j d × (value ≡ d + slice_index values j))

pub chain_reached : (counts : Counts) (lat : Latencies) (ops : List Op) (values : List ℕ) → length values ≡ length ops → (i : ℕ)
    → i < length ops → IsOne counts lat ops values i (chain_of counts lat ops values i)
chain_reached counts lat [] values size i within = absurd (omega arith)
chain_reached counts lat (op ∷ later) [] size i within = absurd (omega arith)
chain_reached counts lat (op ∷ later) (v ∷ values) size zero within = elim
    (fold_max_reached (latency lat op) (reaches_where (λ k. counts 0 (suc k)) lat op later values)) [
      | inl own ↦ inl own
      | inr there ↦
          let r = from_reaches (λ k. counts 0 (suc k)) lat op later values (chain_of counts lat (op ∷ later) (v ∷ values) 0) there in
          inr (
            suc r.to,
            r.delay,
            grind (arith, contains_from),
            r.is,
          )
    ]
chain_reached counts lat (op ∷ later) (v ∷ values) size (suc i) within =
    elim (chain_reached (after_first counts) lat later values (omega arith) i (omega arith)) [
      | inl own ↦ inl own
      | inr pair ↦ inr (suc pair.0, pair.1, outer_pair counts lat op later i pair.0 pair.1 pair.2, pair.3)
    ]

priority_value : (counts : Counts) (lat : Latencies) (ops : List Op) (i : ℕ) → i < length ops
    → priority_where counts lat ops i ≡ chain_of counts lat ops (priorities_where counts lat ops) i
priority_value counts lat [] i within = absurd (omega arith)
priority_value counts lat (op ∷ later) zero within = refl
priority_value counts lat (op ∷ later) (suc i) within = priority_value (after_first counts) lat later i (omega arith)

pub is_priority : (counts : Counts) (lat : Latencies) (ops : List Op)
    → IsChain (length ops) (IsDelayPairWhere counts lat ops) (λ i. latency lat (op_at ops i)) (priority_where counts lat ops) (priority_where counts lat ops)
is_priority counts lat ops =
    let size : length (priorities_where counts lat ops) ≡ length ops = length_where counts lat ops in
    record {
      own = grind (arith, chain_own, least, priority_value);
      pairs = λ i j d pair.
          let least = chain_pairs counts lat ops (priorities_where counts lat ops) size i j d pair in
          grind (arith, priority_value);
      reached = grind (arith, chain_reached, priority_value);
      whole = λ i within. omega arith;
    }

-- a priority is at most what is at least the latency and keeps the pairs
pub priority_least_where : (counts : Counts) (lat : Latencies) (ops : List Op) (other : ℕ → ℕ)
    → ((i : ℕ) → i < length ops → latency lat (op_at ops i) ≤ other i)
    → ((i j d : ℕ) → IsDelayPairWhere counts lat ops i j d → d + other j ≤ other i) → (i : ℕ) → i < length ops
    → priority_where counts lat ops i ≤ other i
priority_least_where counts lat ops other own pairs =
    least (length ops) (IsDelayPairWhere counts lat ops) (λ i. latency lat (op_at ops i)) (priority_where counts lat ops) (is_priority counts lat ops)
    (λ i. length ops - i) (λ i j d pair. (pair.within, omega (arith, pair.order, pair.within))) other own pairs

-- so it is at most 16 cycles for each operation
pub priority_most_where : (counts : Counts) (lat : Latencies) (ops : List Op) (i : ℕ) → i < length ops
    → priority_where counts lat ops i ≤ 16 * length ops
priority_most_where counts lat ops i below =
    let most = priority_least_where counts lat ops (λ k. 16 * (length ops - k))
    (λ k within. omega (arith, short_latency lat (kind (op_at ops k))))
    (λ k j d pair. omega (arith, pair.order, pair.within, short_delay_where (counts k j) lat (op_at ops k) (op_at ops j) d pair.delay))
    i below in
    omega arith

-- where all count these are the priorities
reaches_all : (lat : Latencies) (op : Op) (later : List Op) (prios : List ℕ)
    → reaches_where (λ k. true) lat op later prios ≡ reaches lat op later prios
reaches_all lat op [] prios = refl
reaches_all lat op (j ∷ later) [] = refl
reaches_all lat op (j ∷ later) (prio ∷ prios) = rw (reaches_all lat op later prios) refl

pub priorities_all : (lat : Latencies) (ops : List Op) → priorities_where all_count lat ops ≡ priorities lat ops
priorities_all lat [] = refl
priorities_all lat (op ∷ later) = rw (priorities_all lat later, reaches_all lat op later (priorities lat later)) refl
