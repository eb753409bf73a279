-- What is issued while a store is under way leaves no pairing.
use Rattle.iloc_validation.proofs.Common.{◌≡◌, ℕ, ◌+◌, ◌<◌, ◌≤◌, ◌⊎◌, List, length, sym, refl, ap, ◌∙◌, inl, inr, arith, cases_lt, Op, op_at, kind, latency, latency_of, issue_cycle, Kind, Latencies, Row, contains_from, memory_delays, In, IsUnderWay, IsScheduleUnder, memory_by}
use Rattle.iloc_timed.specs.declared.kind.Kind.TheVariants.{Load, Store, Output}
use Rattle.iloc_validation.proofs.Labels.{same_kind}

-- a store keeps what reads memory behind it waiting for its latency
reads_behind : (lat : Latencies) (a b : Kind) → a ≡ Store → (b ≡ Load) ⊎ (b ≡ Output) → In (memory_by lat a b) (latency_of lat a)
reads_behind lat a b store (inl load) = rw (store, load) (inl refl)
reads_behind lat a b store (inr out) = rw (store, out) (inl refl)

-- and comes after what reads memory before it
stores_behind : (lat : Latencies) (a b : Kind) → (a ≡ Load) ⊎ (a ≡ Output) → b ≡ Store → In (memory_by lat a b) 1
stores_behind lat a b (inl load) store = rw (load, store) (inl refl)
stores_behind lat a b (inr out) store = rw (out, store) (inl refl)

another_kind : (a : Kind) → a ≡ Store → (a ≡ Load) ⊎ (a ≡ Output) → ⊥
another_kind a store (inl load) = absurd (let no : Store ≡ Load = sym store ∙ load in cc)
another_kind a store (inr out) = absurd (let no : Store ≡ Output = sym store ∙ out in cc)

module _ (lat : Latencies) (block ops : List Op) (rows : List Row) (origin partner : ℕ → ℕ)
    (by : IsScheduleUnder lat block ops rows origin partner) where
  pub kind_of : (k : ℕ) → k < length ops → kind (op_at ops k) ≡ kind (op_at block (origin k))
  kind_of k here = same_kind (op_at ops k) (op_at block (origin k)) (by.paired.labels k here)

  -- what memory makes the origin of one wait for is waited for
  pub waited : (j k d : ℕ) → j < length ops → k < length ops → origin j < origin k
      → In (memory_by lat (kind (op_at ops j)) (kind (op_at ops k))) d → issue_cycle rows j + d ≤ issue_cycle rows k
  waited j k d here there before delay =
      let moved : In (memory_delays lat (op_at block (origin j)) (op_at block (origin k))) d =
      rw (← kind_of j here, ← kind_of k there) delay in
      rw (by.paired.back j here, by.paired.back k there) at (by.waits (origin j) (origin k) d before (by.paired.there k there)
      (contains_from (memory_delays lat (op_at block (origin j)) (op_at block (origin k))) d moved))

  pub none_under_way : (k s : ℕ) → k < length ops → s < length ops → IsUnderWay lat ops rows k s → ⊥
  none_under_way k s here there under_way = elim (cases_lt (origin s) (origin k)) [
    | inl before ↦
        let over : issue_cycle rows s + latency lat (op_at ops s) ≤ issue_cycle rows k =
        waited s k (latency lat (op_at ops s)) there here before
        (reads_behind lat (kind (op_at ops s)) (kind (op_at ops k)) under_way.store under_way.waits) in
        omega (arith, under_way.not_over)
    | inr not_before ↦ elim (cases_lt (origin k) (origin s)) [
      | inl after ↦
          let first : issue_cycle rows k + 1 ≤ issue_cycle rows s =
          waited k s 1 here there after
          (stores_behind lat (kind (op_at ops k)) (kind (op_at ops s)) under_way.waits under_way.store) in
          omega (arith, under_way.begun)
      | inr not_after ↦
          let one : origin s ≡ origin k = omega arith in
          let same : s ≡ k = sym (by.paired.back s there) ∙ ap partner one ∙ by.paired.back k here in
          absurd (another_kind (kind (op_at ops k)) (ap (λ n. kind (op_at ops n)) (sym same) ∙ under_way.store) under_way.waits)
    ]
  ]
