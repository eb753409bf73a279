-- A start is the greatest of 0 and d + start(i) over the delay pairs; for `Heuristic::Slack`.
use Rattle.iloc_rules.proofs.Common.{◌≡◌, ℕ, zero, suc, ◌+◌, ◌*◌, ◌<◌, ◌≤◌, max, ◌⊎◌, List, map, length, slice_index, fold, sym, refl, ap, ◌∙◌, subst, inl, inr, arith, cases_eq, get_or_append_left, get_or_push, length_push, Op, op_at, Latencies, Counts, IsDelayPairWhere, all_count, delays_where, arrivals_where, start, start_where, starts, starts_before_where, starts_where, IsChainIntoWhere, In}
use Rattle.iloc_rules.proofs.Basics.Members.{contains_from, in_from, in_left, in_right, from_append, in_map, from_map}
use Rattle.iloc_rules.proofs.Basics.Maxima.{fold_max_each, fold_max_reached}
use Rattle.iloc_rules.proofs.DelayPairs.DelayBounds.{short_delay_where}
use Rattle.iloc_rules.proofs.PriorityValues.Chains.{least}

in_arrivals : (counts : Counts) (lat : Latencies) (ops : List Op) (at : List ℕ) (j n i d : ℕ) → i < n
    → In (delays_where (counts i j) lat (op_at ops i) (op_at ops j)) d → In (arrivals_where counts lat ops at j n) (d + slice_index at i)
in_arrivals counts lat ops at j zero i d below there = absurd (omega arith)
in_arrivals counts lat ops at j (suc n) i d below there = elim (cases_eq i n) [
  | inl same ↦ in_right (arrivals_where counts lat ops at j n) _ (d + slice_index at i) (here same)
  | inr apart ↦ in_left (arrivals_where counts lat ops at j n) _ (d + slice_index at i)
      (in_arrivals counts lat ops at j n i d (omega arith) there)
]
  where
    here : i ≡ n → In (map (λ e. e + slice_index at n) (delays_where (counts n j) lat (op_at ops n) (op_at ops j))) (d + slice_index at i)
    here same = subst (λ k. In (map (λ e. e + slice_index at k) (delays_where (counts k j) lat (op_at ops k) (op_at ops j)))
        (d + slice_index at i)) same
        (in_map (λ e. e + slice_index at i) (delays_where (counts i j) lat (op_at ops i) (op_at ops j)) d there)

-- a delay from an earlier operation behind its start
record Arrived (counts : Counts) (lat : Latencies) (ops : List Op) (at : List ℕ) (j n x : ℕ) : Type 0 where
  from : ℕ
  delay : ℕ
  below : from < n
  there : In (delays_where (counts from j) lat (op_at ops from) (op_at ops j)) delay
  is : x ≡ delay + slice_index at from

from_arrivals : (counts : Counts) (lat : Latencies) (ops : List Op) (at : List ℕ) (j n x : ℕ) → In (arrivals_where counts lat ops at j n) x
    → Arrived counts lat ops at j n x
from_arrivals counts lat ops at j zero x there = absurd there
from_arrivals counts lat ops at j (suc n) x there =
    elim (from_append (arrivals_where counts lat ops at j n) (map (λ e. e + slice_index at n) (delays_where (counts n j) lat (op_at ops n) (op_at ops j))) x
    there) [
      | inl earlier ↦
          let a = from_arrivals counts lat ops at j n x earlier in
          record {
            from = a.from;
            delay = a.delay;
            below = let below : a.from < n = a.below in
                omega arith;
            there = a.there;
            is = a.is;
          }
      | inr last ↦
          let found = from_map (λ e. e + slice_index at n) (delays_where (counts n j) lat (op_at ops n) (op_at ops j)) x last in
          record { from = n; delay = found.0; below = omega arith; there = found.1; is = sym found.2 }
    ]

length-starts_before : (counts : Counts) (lat : Latencies) (ops : List Op) (n : ℕ) → length (starts_before_where counts lat ops n) ≡ n
length-starts_before counts lat ops zero = refl
length-starts_before counts lat ops (suc n) = grind (arith, length_push, length-starts_before counts lat ops n)

pub length-starts_where : (counts : Counts) (lat : Latencies) (ops : List Op) → length (starts_where counts lat ops) ≡ length ops
length-starts_where counts lat ops = length-starts_before counts lat ops (length ops)

-- the start of operation j, by those before it
own_start : Counts → Latencies → List Op → ℕ → ℕ
own_start counts lat ops j = fold max 0 (arrivals_where counts lat ops (starts_before_where counts lat ops j) j j)

start_at : (counts : Counts) (lat : Latencies) (ops : List Op) (n j : ℕ) → j < n
    → slice_index (starts_before_where counts lat ops n) j ≡ own_start counts lat ops j
unfolding own_start
start_at counts lat ops zero j below = absurd (omega arith)
start_at counts lat ops (suc n) j below =
    let size : length (starts_before_where counts lat ops n) ≡ n = length-starts_before counts lat ops n in
    elim (cases_eq j n) [
      | inl same ↦
          get_or_push (starts_before_where counts lat ops n) (fold max 0 (arrivals_where counts lat ops (starts_before_where counts lat ops n) n n)) 0 j
          (omega arith)
          ∙ ap (λ k. fold max 0 (arrivals_where counts lat ops (starts_before_where counts lat ops k) k k)) (sym same)
      | inr apart ↦
          get_or_append_left (starts_before_where counts lat ops n) _ 0 j (omega arith) ∙ start_at counts lat ops n j (omega arith)
    ]

-- what the starts before j say is what all say
before_is : (counts : Counts) (lat : Latencies) (ops : List Op) (j i : ℕ) → i < j → j < length ops
    → slice_index (starts_before_where counts lat ops j) i ≡ start_where counts lat ops i
before_is counts lat ops j i earlier below =
    start_at counts lat ops j i earlier ∙ sym (start_at counts lat ops (length ops) i (omega arith))

pair_starts : (counts : Counts) (lat : Latencies) (ops : List Op) (i j d : ℕ) → IsDelayPairWhere counts lat ops i j d
    → d + start_where counts lat ops i ≤ start_where counts lat ops j
unfolding own_start
pair_starts counts lat ops i j d pair =
    let order : i < j = pair.order in
    let within : j < length ops = pair.within in
    let own : start_where counts lat ops j ≡ own_start counts lat ops j = start_at counts lat ops (length ops) j within in
    let before : slice_index (starts_before_where counts lat ops j) i ≡ start_where counts lat ops i = before_is counts lat ops j i order within in
    let least : d + slice_index (starts_before_where counts lat ops j) i
    ≤ fold max 0 (arrivals_where counts lat ops (starts_before_where counts lat ops j) j j) =
    fold_max_each 0 (arrivals_where counts lat ops (starts_before_where counts lat ops j) j j) (d + slice_index (starts_before_where counts lat ops j) i)
    (in_arrivals counts lat ops (starts_before_where counts lat ops j) j j i d order
    (in_from (delays_where (counts i j) lat (op_at ops i) (op_at ops j)) d pair.delay)) in
    let same : own_start counts lat ops j ≡ fold max 0 (arrivals_where counts lat ops (starts_before_where counts lat ops j) j j) = refl in
    omega arith

start_reached : (counts : Counts) (lat : Latencies) (ops : List Op) (j : ℕ) → j < length ops → (start_where counts lat ops j ≡ 0)
    ⊎ ((i : ℕ) × (d : ℕ) × IsDelayPairWhere counts lat ops i j d × (start_where counts lat ops j ≡ d + start_where counts lat ops i))
unfolding own_start
start_reached counts lat ops j within =
    let own : start_where counts lat ops j ≡ own_start counts lat ops j = start_at counts lat ops (length ops) j within in
    elim (fold_max_reached 0 (arrivals_where counts lat ops (starts_before_where counts lat ops j) j j)) [
      | inl none ↦ inl (own ∙ none)
      | inr there ↦
          let a = from_arrivals counts lat ops (starts_before_where counts lat ops j) j j
          (fold max 0 (arrivals_where counts lat ops (starts_before_where counts lat ops j) j j)) there in
          let earlier : a.from < j = a.below in
          inr (
            a.from,
            a.delay,
            record {
              order = earlier;
              within = within;
              delay = contains_from (delays_where (counts a.from j) lat (op_at ops a.from) (op_at ops j)) a.delay a.there;
            },
            own ∙ a.is ∙ ap (λ n. a.delay + n) (before_is counts lat ops j a.from earlier within),
          )
    ]

pub is_start_where : (counts : Counts) (lat : Latencies) (ops : List Op) → IsChainIntoWhere counts lat ops (start_where counts lat ops)
is_start_where counts lat ops = record {
  own = λ j within. omega arith;
  pairs = λ j i d pair. pair_starts counts lat ops i j d pair;
  reached = start_reached counts lat ops;
  whole = λ j within. omega arith;
}

-- a start is at most what keeps the pairs
pub start_least_where : (counts : Counts) (lat : Latencies) (ops : List Op) (other : ℕ → ℕ)
    → ((i j d : ℕ) → IsDelayPairWhere counts lat ops i j d → d + other i ≤ other j) → (j : ℕ) → j < length ops
    → start_where counts lat ops j ≤ other j
start_least_where counts lat ops other pairs =
    least (length ops) (λ j i d. IsDelayPairWhere counts lat ops i j d) (λ j. 0) (start_where counts lat ops) (is_start_where counts lat ops) (λ j. j)
    (λ j i d pair. (omega (arith, pair.order, pair.within), pair.order)) other (λ j within. omega arith)
    (λ j i d pair. pairs i j d pair)

-- so it is at most 16 cycles for each operation
pub start_most_where : (counts : Counts) (lat : Latencies) (ops : List Op) (j : ℕ) → j < length ops → start_where counts lat ops j ≤ 16 * length ops
start_most_where counts lat ops j below =
    let most = start_least_where counts lat ops (λ k. 16 * k)
    (λ i k d pair. omega (arith, pair.order, short_delay_where (counts i k) lat (op_at ops i) (op_at ops k) d pair.delay)) j below in
    omega arith

-- the same where all count
pub length-starts : (lat : Latencies) (ops : List Op) → length (starts lat ops) ≡ length ops
length-starts = length-starts_where all_count

pub start_least : (lat : Latencies) (ops : List Op) (other : ℕ → ℕ)
    → ((i j d : ℕ) → IsDelayPairWhere all_count lat ops i j d → d + other i ≤ other j) → (j : ℕ) → j < length ops
    → start lat ops j ≤ other j
start_least = start_least_where all_count
