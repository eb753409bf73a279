-- A delay pair that isn't near goes by way of an operation between; for `priorities` and `schedule` (`greedy`).
use Rattle.iloc_sched.proofs.Common.{◌≡◌, ℕ, zero, suc, ◌+◌, ◌<◌, ◌≤◌, Bool, true, false, ◌⊎◌, List, length, if◌then◌else◌, refl, ap, ◌∙◌, inl, inr, arith, cases_lt, Op, by_bool, op_at, is_output, is_store, kind, latency, Kind, Latencies, contains_from, from_append, in_from, in_right, delay_at_least_where, kind_delays, Counts, IsDelayPair, IsDelayPairWhere, all_count, memory_delays, uses_result, when, In, IsNear, takes_over}
use Rattle.iloc_timed.specs.declared.kind.Kind.TheVariants as K
use Rattle.iloc_rules.specs.Steps.Ways.{GoesBy}
use Rattle.iloc_sched.proofs.Basics.Cases.{by_eq}

-- b delays c by nearly d
abbrev Follows : Latencies → Kind → Kind → ℕ → Type 0
Follows lat b c d = (e : ℕ) × In (kind_delays lat b c) e × (d ≤ 1 + e)

over_output : (lat : Latencies) (c : Kind) (d : ℕ) → In (kind_delays lat K.Output c) d → Follows lat K.Output c d
over_output lat c d held = grind arith

over_store : (lat : Latencies) (c : Kind) (d : ℕ) → In (kind_delays lat K.Store c) d → Follows lat K.Store c d
over_store lat c d held = grind arith

over_load : (lat : Latencies) (c : Kind) (d : ℕ) → In (kind_delays lat K.Load c) d → Follows lat K.Store c d
over_load lat c d held = grind arith

-- b takes the place of a, so what a delays is delayed by way of b
by_way : (lat : Latencies) (a b c : Kind) (d : ℕ) → (if is_output a then is_output b else is_store b) ≡ true
    → In (kind_delays lat a c) d → In (kind_delays lat a b) 1 × Follows lat b c d
by_way lat K.Output K.Output c d takes held = (inl refl, over_output lat c d held)
by_way lat K.Load K.Store c d takes held = (inl refl, over_load lat c d held)
by_way lat K.Store K.Store c d takes held = (inl refl, over_store lat c d held)
by_way lat K.Mult K.Store c d takes held = absurd held
by_way lat K.Other K.Store c d takes held = absurd held
by_way lat _ _ c d takes held = cc

-- one between that passes, or none
passes_between : (test : ℕ → Bool) (a b : ℕ) → ((k : ℕ) × (a < k) × (k < b) × (test k ≡ true))
    ⊎ ((k : ℕ) → a < k → k < b → test k ≡ false)
passes_between test a zero = inr (λ k after before. absurd (omega arith))
passes_between test a (suc b) = elim (passes_between test a b) [
  | inl found ↦ inl (found.0, found.1, let below : found.0 < b = found.2 in omega arith, found.3)
  | inr none ↦ by_bool (test b)
      (λ passes. elim (cases_lt a b) [
        | inl after ↦ inl (b, after, omega arith, passes)
        | inr early ↦
            inr (λ k after before. absurd (omega arith))
      ])
      (λ fails. inr (λ k after before. by_eq k b (λ same. ap test same ∙ fails) (λ apart. none k after (omega arith))))
]

in_when : (b : Bool) (x d : ℕ) → In (when b x) d → (b ≡ true) × (d ≡ x)
in_when b x d held = grind arith

goes_by : (lat : Latencies) (ops : List Op) (i j k d : ℕ) → i < k → k < j → j < length ops
    → takes_over (op_at ops i) (op_at ops k) ≡ true → In (memory_delays lat (op_at ops i) (op_at ops j)) d
    → GoesBy all_count lat ops i j d
goes_by lat ops i j k d after before within takes held =
    let way : In (kind_delays lat (kind (op_at ops i)) (kind (op_at ops k))) 1
    × Follows lat (kind (op_at ops k)) (kind (op_at ops j)) d =
    by_way lat (kind (op_at ops i)) (kind (op_at ops k)) (kind (op_at ops j)) d takes held in
    let rest : Follows lat (kind (op_at ops k)) (kind (op_at ops j)) d = way.1 in
    record {
      way = k;
      first_delay = 1;
      second_delay = rest.0;
      first = grind (arith, contains_from, in_right);
      second = grind (arith, contains_from, in_right);
      enough = rest.2;
    }

pub near_or_by_way : (lat : Latencies) (ops : List Op) (i j d : ℕ) → IsDelayPair lat ops i j d → IsNear lat ops i j d
    ⊎ GoesBy all_count lat ops i j d
near_or_by_way lat ops i j d pair =
    elim (from_append (when (uses_result (op_at ops i) (op_at ops j)) (latency lat (op_at ops i)))
    (memory_delays lat (op_at ops i) (op_at ops j)) d (in_from _ _ pair.delay)) [
      | inl result ↦ inl (inl (in_when _ _ _ result))
      | inr memory ↦ elim (passes_between (λ k. takes_over (op_at ops i) (op_at ops k)) i j) [
        | inl found ↦ inr (goes_by lat ops i j found.0 d found.1 found.2 pair.within found.3 memory)
        | inr none ↦ inl (inr (contains_from _ _ memory, none))
      ]
    ]

-- where these count, each delay pair is kept, or goes by way of an operation between
module _ (counts : Counts) (lat : Latencies) (ops : List Op) (Kept : ℕ → ℕ → ℕ → Type 0)
    (ways : (i j d : ℕ) → IsDelayPairWhere counts lat ops i j d → Kept i j d ⊎ GoesBy counts lat ops i j d) where
  -- Numbers that keep those kept out of the operations from `low` on keep all delay pairs out of these.
  module _ (a b : ℕ → ℕ) (low : ℕ)
      (kept : (i j d : ℕ) → low ≤ i → IsDelayPairWhere counts lat ops i j d → Kept i j d → d + a i + b j ≤ a j + b i) where
    kept_within : (n i j d : ℕ) → j ≤ i + n → low ≤ i → IsDelayPairWhere counts lat ops i j d → d + a i + b j ≤ a j + b i
    kept_within zero i j d few high pair = let order : i < j = pair.order in absurd (omega arith)
    kept_within (suc n) i j d few high pair = elim (ways i j d pair) [
      | inl is ↦ kept i j d high pair is
      | inr by ↦
          let first_order : i < by.way = by.first.order in
          let second_order : by.way < j = by.second.order in
          let first = kept_within n i by.way by.first_delay (omega arith) high by.first in
          let second = kept_within n by.way j by.second_delay (omega arith) (omega arith) by.second in
          let enough : d ≤ by.first_delay + by.second_delay = by.enough in
          omega arith
    ]

    pub all_kept : (i j d : ℕ) → low ≤ i → IsDelayPairWhere counts lat ops i j d → d + a i + b j ≤ a j + b i
    all_kept i j d high pair = kept_within j i j d (omega arith) high pair

  module _ (t : ℕ → ℕ) (c j : ℕ)
      (waited : (i h d : ℕ) → IsDelayPairWhere counts lat ops i h d → t h < c → t i + d ≤ t h)
      (kept : (i d : ℕ) → IsDelayPairWhere counts lat ops i j d → Kept i j d → t i + d ≤ c) where
    over_within : (n i d : ℕ) → j ≤ i + n → IsDelayPairWhere counts lat ops i j d → t i + d ≤ c
    over_within zero i d few pair = let order : i < j = pair.order in absurd (omega arith)
    over_within (suc n) i d few pair = elim (ways i j d pair) [
      | inl is ↦ kept i d pair is
      | inr by ↦
          let first_order : i < by.way = by.first.order in
          let second_order : by.way < j = by.second.order in
          let rest : t by.way + by.second_delay ≤ c = over_within n by.way by.second_delay (omega arith) by.second in
          let long : 1 ≤ by.second_delay = delay_at_least_where (counts by.way j) lat (op_at ops by.way) (op_at ops j)
          by.second_delay by.second.delay in
          let start : t i + by.first_delay ≤ t by.way = waited i by.way by.first_delay by.first (omega arith) in
          let enough : d ≤ by.first_delay + by.second_delay = by.enough in
          omega arith
    ]

    -- where all that was issued had waited for its delays, those kept alone say what is over at cycle c
    pub kept_is_over : (i d : ℕ) → IsDelayPairWhere counts lat ops i j d → t i + d ≤ c
    kept_is_over i d pair = over_within j i d (omega arith) pair

-- the near pairs are kept
pub all_are_kept : (lat : Latencies) (ops : List Op) (a b : ℕ → ℕ) (low : ℕ)
    → ((i j d : ℕ) → low ≤ i → IsDelayPair lat ops i j d → IsNear lat ops i j d → d + a i + b j ≤ a j + b i)
    → (i j d : ℕ) → low ≤ i → IsDelayPair lat ops i j d → d + a i + b j ≤ a j + b i
all_are_kept lat ops = all_kept all_count lat ops (IsNear lat ops) (near_or_by_way lat ops)
