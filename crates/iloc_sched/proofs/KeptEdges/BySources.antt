-- Edges from what an operation has to wait for by address are its near pairs by memory; for `Edges::fill_by_address`.
use Rattle.iloc_sched.proofs.Common.{◌≡◌, ℕ, ◌<◌, Bool, List, [], ◌∷◌, ◌++◌, length, Contains, sym, refl, subst, inl, inr, arith, Op, op_at, kind, latency, Kind, Latencies, contains_from, from_append, in_from, in_right, kind_delays, by_address, IsDelayPairWhere, delays_where, memory_delays_where, uses_result, when, In, Address, AreSources, CoversSources, delay_after, AddsFrom, CoversUses, Grows, HasEdge, IsNearPairBy, Graph}
use Rattle.iloc_addresses.specs.Near.{IsNear}
use Rattle.iloc_addresses.proofs.FarPairs.{counted}
use Rattle.iloc_sched.proofs.KeptEdges.NearPairs.{use_is_covered}
use Rattle.iloc_sched.proofs.KeptEdges.PartialGraphs.{grows_then}

kinds_delay : (lat : Latencies) (a b : Kind) (d : ℕ) → In (kind_delays lat a b) d → d ≡ delay_after lat a b
kinds_delay lat a b d held = grind arith

-- a delay by memory or outputs follows from the kinds
memory_delay : (counts : Bool) (lat : Latencies) (i j : Op) (d : ℕ) → In (memory_delays_where counts lat i j) d
    → d ≡ delay_after lat (kind i) (kind j)
memory_delay counts lat i j d held = kinds_delay lat (kind i) (kind j) d (counted counts lat i j d held)

module _ (lat : Latencies) (ops : List Op) (j : ℕ) (sources : List ℕ) (are : AreSources (by_address ops) ops j sources) where
  abbrev delay : ℕ → ℕ
  delay i = delay_after lat (kind (op_at ops i)) (kind (op_at ops j))

  -- each is a near pair
  pub source_pair : j < length ops → (i : ℕ) → In sources i → IsNearPairBy Address lat ops i j (delay i)
  source_pair within i held =
      let there : Contains sources i = contains_from sources i held in
      let pair = are.each lat i there in
      let by_memory = in_from (memory_delays_where (by_address ops i j) lat (op_at ops i) (op_at ops j)) pair.0 pair.1.delay in
      let is : pair.0 ≡ delay i = memory_delay (by_address ops i j) lat (op_at ops i) (op_at ops j) pair.0 by_memory in
      subst (IsNearPairBy Address lat ops i j) is (record {
        order = pair.1.order;
        within = within;
        delay = contains_from (delays_where (by_address ops i j) lat (op_at ops i) (op_at ops j)) pair.0
            (in_right (when (uses_result (op_at ops i) (op_at ops j)) (latency lat (op_at ops i))) _ pair.0 by_memory);
        near = inr (pair.1.delay, are.alone i there);
      })

  -- and with the uses these are all
  pub near_is_source : (graph : Graph) → CoversUses lat ops graph j → CoversSources lat ops graph j sources → (i d : ℕ)
      → IsDelayPairWhere (by_address ops) lat ops i j d → IsNear (by_address ops) lat ops i j d → HasEdge graph j i d
  near_is_source graph uses covers i d pair near = elim near [
    | inl result ↦
        subst (λ e. HasEdge graph j i e) (sym result.1) (use_is_covered lat ops graph j uses i pair.order result.0)
    | inr by ↦
        let there = are.near lat i d (record { order = pair.order; delay = by.0 }) by.1 in
        subst (λ e. HasEdge graph j i e)
        (sym (memory_delay (by_address ops i j) lat (op_at ops i) (op_at ops j) d (in_from _ d by.0)))
        (covers i (in_from sources i there))
  ]

  -- the edge of one source more
  pub source_more : j < length ops → (front : List ℕ) (i : ℕ) (a b c : Graph) → In sources i
      → Grows Address lat ops a b j → CoversSources lat ops b j front
      → AddsFrom (λ k. k ≡ i) b c j (delay i) → Grows Address lat ops a c j × CoversSources lat ops c j (front ++ i ∷ [])
  source_more within front i a b c held grows covers adds =
      let more = adds Address lat ops grows.partial
      (λ k same. subst (λ m. IsNearPairBy Address lat ops m j (delay i)) (sym same) (source_pair within i held)) in (
        grows_then Address lat ops a b c j grows more.0,
        λ k there. elim (from_append front (i ∷ []) k there) [
          | inl before ↦ more.0.keeps k (delay k) (covers k before)
          | inr last ↦ elim last [
            | inl same ↦ subst (λ m. HasEdge c j m (delay m)) same (more.1 i refl)
            | inr none ↦ absurd none
          ]
        ],
      )
