-- The list of delay pairs has exactly the delay pairs, in order: `pairs` (`list`, `exact`, `ordered`).
use Rattle.iloc_rules.proofs.Common.{◌≡◌, ℕ, zero, suc, ◌+◌, ◌<◌, ◌↔◌, List, ◌++◌, length, get_or, Contains, AllPairs, refl, ap, ◌∙◌, inl, inr, append_assoc, add-one, arith, cases_eq, get_or_default, Op, Nop, op_at, Latencies, IsDelayPair, delays, ComesBefore, pairs, pairs_before, pairs_from, rising, with_delays, In}
use Rattle.iloc_rules.specs.declared.delay_pairs.Pair.{Pair}
use Rattle.iloc_rules.proofs.Basics.Members.{in_from, contains_from, in_left, in_right, in_map, from_append, from_map}
use Rattle.iloc_rules.proofs.Basics.Ordered.{Ordered, all_pairs, ordered_append, ordered_map}
use Rattle.iloc_rules.proofs.DelayPairs.RisingDelays.{Below, rising_ordered, from_rising, in_rising}

-- p is a pair to operation j
record IsTo (lat : Latencies) (ops : List Op) (j : ℕ) (p : Pair) : Type 0 where
  second : p.second ≡ j
  delay : In (delays lat (op_at ops p.first) (op_at ops j)) p.delay

between : (lat : Latencies) (ops : List Op) (j i : ℕ) (p : Pair)
    → In (with_delays i j (rising (delays lat (op_at ops i) (op_at ops j)))) p → IsTo lat ops j p × (p.first ≡ i)
between lat ops j i p there = grind (arith, from_map, from_rising)

from_pairs_from : (lat : Latencies) (ops : List Op) (j i : ℕ) (p : Pair) → In (pairs_from lat ops j i) p
    → IsTo lat ops j p × (p.first < i)
from_pairs_from lat ops j zero p there = absurd there
from_pairs_from lat ops j (suc i) p there = grind (arith, between, from_append, from_pairs_from lat ops j i p)

in_pairs_from : (lat : Latencies) (ops : List Op) (j n i d : ℕ) → i < n → In (delays lat (op_at ops i) (op_at ops j)) d
    → In (pairs_from lat ops j n) (record { first = i; second = j; delay = d })
in_pairs_from lat ops j zero i d below there = absurd (omega arith)
in_pairs_from lat ops j (suc n) i d below there = elim (cases_eq i n) [
  | inl last ↦
      in_right (pairs_from lat ops j n) _ _
      (rw last (in_map (λ d. record { first = n; second = j; delay = d })
      (rising (delays lat (op_at ops n) (op_at ops j))) d
      (in_rising (delays lat (op_at ops n) (op_at ops j)) d (rw last at there))))
  | inr earlier ↦ in_left (pairs_from lat ops j n) _ _ (in_pairs_from lat ops j n i d (omega arith) there)
]

-- what stands in the list is a delay pair
record IsWithin (lat : Latencies) (ops : List Op) (n : ℕ) (p : Pair) : Type 0 where
  within : p.second < n
  order : p.first < p.second
  delay : In (delays lat (op_at ops p.first) (op_at ops p.second)) p.delay

from_pairs_before : (lat : Latencies) (ops : List Op) (n : ℕ) (p : Pair) → In (pairs_before lat ops n) p
    → IsWithin lat ops n p
from_pairs_before lat ops zero p there = absurd there
from_pairs_before lat ops (suc n) p there = grind (arith, from_append, from_pairs_from, from_pairs_before lat ops n p)

in_pairs_before : (lat : Latencies) (ops : List Op) (n i j d : ℕ) → i < j → j < n
    → In (delays lat (op_at ops i) (op_at ops j)) d
    → In (pairs_before lat ops n) (record { first = i; second = j; delay = d })
in_pairs_before lat ops zero i j d order below there = absurd (omega arith)
in_pairs_before lat ops (suc n) i j d order below there = elim (cases_eq j n) [
  | inl last ↦ in_right (pairs_before lat ops n) _ _ (rw (← last) (in_pairs_from lat ops j j i d order there))
  | inr earlier ↦ in_left (pairs_before lat ops n) _ _ (in_pairs_before lat ops n i j d order (omega arith) there)
]

-- the list has the delay pairs and no other
pub pairs_exact : (lat : Latencies) (ops : List Op) (i j d : ℕ)
    → Contains (pairs lat ops) (record { first = i; second = j; delay = d }) ↔ IsDelayPair lat ops i j d
pairs_exact lat ops i j d = (
  λ there.
      let found = from_pairs_before lat ops (length ops) (record { first = i; second = j; delay = d })
      (in_from _ _ there) in
      record { order = found.order; within = found.within; delay = contains_from _ d found.delay },
  grind (arith, contains_from, in_from, in_pairs_before),
)

ordered_from : (lat : Latencies) (ops : List Op) (j n : ℕ) → Ordered ComesBefore (pairs_from lat ops j n)
ordered_from lat ops j zero = tt
ordered_from lat ops j (suc n) =
    ordered_append ComesBefore (pairs_from lat ops j n) _ (ordered_from lat ops j n)
    (ordered_map Below ComesBefore (λ d. record { first = n; second = j; delay = d })
    (rising (delays lat (op_at ops n) (op_at ops j)))
    (λ a b below. inr (refl, inr (refl, below)))
    (rising_ordered (delays lat (op_at ops n) (op_at ops j))))
    (grind (arith, between, from_pairs_from))

ordered_before : (lat : Latencies) (ops : List Op) (n : ℕ) → Ordered ComesBefore (pairs_before lat ops n)
ordered_before lat ops zero = tt
ordered_before lat ops (suc n) = grind (arith, from_pairs_before, from_pairs_from, ordered_append, ordered_from, ordered_before lat ops n)

pub pairs_ordered : (lat : Latencies) (ops : List Op) → AllPairs ComesBefore (pairs lat ops)
pairs_ordered lat ops = all_pairs ComesBefore (pairs lat ops) (ordered_before lat ops (length ops))

-- one more operation before operation j
pub pairs_more : (lat : Latencies) (ops : List Op) (j i : ℕ) (first second : Op) (start items more : List Pair)
    (ds : List ℕ) → i < j → j < length ops → items ≡ start ++ pairs_from lat ops j i
    → more ≡ items ++ with_delays i j ds → ds ≡ rising (delays lat (get_or ops i first) (get_or ops j second))
    → more ≡ start ++ pairs_from lat ops j (i + 1)
pairs_more lat ops j i first second start items more ds before below so_far pushed are =
    let within : i < length ops = omega arith in
    rw (pushed, so_far, are, get_or_default ops i first Nop within, get_or_default ops j second Nop below, add-one)
    (append_assoc start (pairs_from lat ops j i) (with_delays i j (rising (delays lat (op_at ops i) (op_at ops j)))))

-- all operations are gone through
pub pairs_all : (lat : Latencies) (ops : List Op) (n : ℕ) (items : List Pair) → n ≡ length ops
    → items ≡ pairs_before lat ops n → items ≡ pairs lat ops
pairs_all lat ops n items all are = are ∙ ap (pairs_before lat ops) all
