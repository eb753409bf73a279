-- A delay pair that isn't near goes by way of an operation between: `laws::near_pairs_imply_all`.
use Rattle.iloc_addresses.proofs.Common.{◌≡◌, ℕ, zero, suc, ◌+◌, ◌<◌, ◌≤◌, Bool, true, false, ◌&&◌, ◌⊎◌, List, length, sym, ap, ◌∙◌, inl, inr, arith, and_parts, cases_eq, cases_lt, Op, by_bool, op_at, is_output, is_store, kind, latency, Kind, Latencies, contains_from, from_append, in_from, in_right, Counts, IsDelayPairWhere, delays_where, keeps_order_where, memory_delays_where, uses_result, when, In, IsNear, takes_over}
use Rattle.iloc_timed.specs.declared.kind.Kind.TheVariants as K
use Rattle.iloc_rules.specs.Steps.Ways.{GoesBy}
use Rattle.iloc_rules.proofs.Basics.Kinds.{store_is}
use Rattle.iloc_rules.proofs.DelayPairs.DelayBounds.{kind_delays, in_when, from_when}
use Rattle.iloc_rules.proofs.DelayPairs.WaitedFor.{output_then_output}

-- b delays c by nearly d
abbrev Follows : Latencies → Kind → Kind → ℕ → Type 0
Follows lat b c d = (e : ℕ) × In (kind_delays lat b c) e × (d ≤ 1 + e)

-- what delays c, or would if the two counted, delays a store before it, and a store delays c as long
over_store : (lat : Latencies) (a c : Kind) (d : ℕ) → In (kind_delays lat a c) d → Follows lat K.Store c d
over_store lat a c d held = grind arith

before_store : (lat : Latencies) (a c : Kind) (d : ℕ) → In (kind_delays lat a c) d → In (kind_delays lat a K.Store) 1
before_store lat a c d held = grind arith

pub counted : (counts : Bool) (lat : Latencies) (i j : Op) (d : ℕ) → In (memory_delays_where counts lat i j) d
    → In (kind_delays lat (kind i) (kind j)) d
counted true lat i j d held = held
counted false lat i j d held = grind (arith, and_parts, from_when, in_when)

-- one between that passes, or none
passes_between : (test : ℕ → Bool) (a b : ℕ) → ((k : ℕ) × (a < k) × (k < b) × (test k ≡ true))
    ⊎ ((k : ℕ) → a < k → k < b → test k ≡ false)
passes_between test a zero = inr (λ k after before. absurd (omega arith))
passes_between test a (suc b) = elim (passes_between test a b) [
  | inl found ↦ inl (found.0, found.1, let below : found.0 < b = found.2 in omega arith, found.3)
  | inr none ↦ by_bool (test b)
      (λ passes. elim (cases_lt a b) [
        | inl after ↦ inl (b, after, omega arith, passes)
        | inr early ↦
            inr (λ k after before. absurd (omega arith))
      ])
      (λ fails. inr (λ k after before. elim (cases_eq k b) [
        | inl same ↦ ap test same ∙ fails
        | inr apart ↦ none k after (omega arith)
      ]))
]

module _ (counts : Counts) (lat : Latencies) (ops : List Op) where
  of_memory : (i j d : ℕ) → i < j → j < length ops
      → In (memory_delays_where (counts i j) lat (op_at ops i) (op_at ops j)) d → IsDelayPairWhere counts lat ops i j d
  of_memory i j d before within held = record {
    order = before;
    within = within;
    delay = contains_from (delays_where (counts i j) lat (op_at ops i) (op_at ops j)) d
        (in_right (when (uses_result (op_at ops i) (op_at ops j)) (latency lat (op_at ops i))) _ d held);
  }

  -- by a store that counts with both
  by_store : (i j k d : ℕ) → i < k → k < j → j < length ops → kind (op_at ops k) ≡ K.Store → counts i k ≡ true
      → counts k j ≡ true → In (kind_delays lat (kind (op_at ops i)) (kind (op_at ops j))) d
      → GoesBy counts lat ops i j d
  by_store i j k d after before within store first second held =
      let rest = over_store lat (kind (op_at ops i)) (kind (op_at ops j)) d held in
      record {
        way = k;
        first_delay = 1;
        second_delay = rest.0;
        first = of_memory i k 1 after (omega arith)
            (rw (first, store) (before_store lat (kind (op_at ops i)) (kind (op_at ops j)) d held));
        second = of_memory k j rest.0 before within (rw (second, store) rest.1);
        enough = rest.2;
      }

  -- by an output between outputs
  by_output : (i j k d : ℕ) → i < k → k < j → j < length ops → is_output (kind (op_at ops i)) ≡ true
      → is_output (kind (op_at ops k)) ≡ true → is_output (kind (op_at ops j)) ≡ true
      → In (kind_delays lat (kind (op_at ops i)) (kind (op_at ops j))) d → GoesBy counts lat ops i j d
  by_output i j k d after before within first middle last held = record {
    way = k;
    first_delay = 1;
    second_delay = 1;
    first = of_memory i k 1 after (omega arith) (in_order i k first middle);
    second = of_memory k j 1 before within (in_order k j middle last);
    enough = grind arith;
  }
    where
      in_order : (a b : ℕ) → is_output (kind (op_at ops a)) ≡ true → is_output (kind (op_at ops b)) ≡ true
          → In (memory_delays_where (counts a b) lat (op_at ops a) (op_at ops b)) 1
      in_order a b one other = in_right _ _ 1
          (in_when (keeps_order_where (counts a b) (kind (op_at ops a)) (kind (op_at ops b))) 1
          (output_then_output (counts a b) (kind (op_at ops a)) (kind (op_at ops b)) one other))

  by_another : (i j k d : ℕ) → i < k → k < j → j < length ops → takes_over counts ops i j k ≡ true
      → In (memory_delays_where (counts i j) lat (op_at ops i) (op_at ops j)) d → GoesBy counts lat ops i j d
  by_another i j k d after before within takes held =
      let all = counted (counts i j) lat (op_at ops i) (op_at ops j) d held in
      by_bool (is_output (kind (op_at ops i)) && is_output (kind (op_at ops j)))
      (λ t.
      let both = and_parts (is_output (kind (op_at ops i))) (is_output (kind (op_at ops j))) t in
      by_output i j k d after before within both.0 (rw t at takes) both.1 all)
      (λ f.
      let parts = and_parts (is_store (kind (op_at ops k))) (counts i k && counts k j) (rw f at takes) in
      let both = and_parts (counts i k) (counts k j) parts.1 in
      by_store i j k d after before within (store_is (kind (op_at ops k)) parts.0) both.0 both.1 all)

  pub near_or_by_way : (i j d : ℕ) → IsDelayPairWhere counts lat ops i j d
      → IsNear counts lat ops i j d ⊎ GoesBy counts lat ops i j d
  near_or_by_way i j d pair =
      elim (from_append (when (uses_result (op_at ops i) (op_at ops j)) (latency lat (op_at ops i)))
      (memory_delays_where (counts i j) lat (op_at ops i) (op_at ops j)) d (in_from _ _ pair.delay)) [
        | inl result ↦ let used = from_when _ _ d result in inl (inl (used.0, sym used.1))
        | inr memory ↦ elim (passes_between (λ k. takes_over counts ops i j k) i j) [
          | inl found ↦ inr (by_another i j found.0 d found.1 found.2 pair.within found.3 memory)
          | inr none ↦ inl (inr (contains_from _ _ memory, none))
        ]
      ]

-- cycles of issue that wait for the near pairs wait for those up to n operations apart
waits_within : (counts : Counts) (lat : Latencies) (ops : List Op) (cycle : ℕ → ℕ)
    → ((i j d : ℕ) → IsDelayPairWhere counts lat ops i j d → IsNear counts lat ops i j d → cycle i + d ≤ cycle j)
    → (n i j d : ℕ) → j ≤ i + n → IsDelayPairWhere counts lat ops i j d → cycle i + d ≤ cycle j
waits_within counts lat ops cycle near zero i j d few pair = let order : i < j = pair.order in absurd (omega arith)
waits_within counts lat ops cycle near (suc n) i j d few pair = elim (near_or_by_way counts lat ops i j d pair) [
  | inl is ↦ near i j d pair is
  | inr by ↦
      let first_order : i < by.way = by.first.order in
      let second_order : by.way < j = by.second.order in
      let first : cycle i + by.first_delay ≤ cycle by.way =
      waits_within counts lat ops cycle near n i by.way by.first_delay (omega arith) by.first in
      let second : cycle by.way + by.second_delay ≤ cycle j =
      waits_within counts lat ops cycle near n by.way j by.second_delay (omega arith) by.second in
      let enough : d ≤ by.first_delay + by.second_delay = by.enough in
      omega arith
]

pub near_implies_all : (counts : Counts) (lat : Latencies) (ops : List Op) (cycle : ℕ → ℕ)
    → ((i j d : ℕ) → IsDelayPairWhere counts lat ops i j d → IsNear counts lat ops i j d → cycle i + d ≤ cycle j)
    → (i j d : ℕ) → IsDelayPairWhere counts lat ops i j d → cycle i + d ≤ cycle j
near_implies_all counts lat ops cycle near i j d pair =
    waits_within counts lat ops cycle near j i j d (omega arith) pair
