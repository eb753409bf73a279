-- From which cycle on memory and outputs let an operation be issued: it waits for what it has to wait for, and for no more.
use Rattle.iloc_validation.proofs.Common.{◌≡◌, ℕ, zero, suc, ◌+◌, ◌<◌, ◌≤◌, max, List, map, fold, refl, subst, inl, inr, add-one, arith, cases_eq, Op, op_at, kind, Kind, Latencies, fold_max_each, fold_max_reached, from_map, in_map, In, earliest, memory_by, noted, wait_of}
use Rattle.iloc_timed.specs.declared.kind.Kind.TheVariants as K
use Rattle.iloc_timed.proofs.Greatest.{le_fold_max}
use Rattle.iloc_validation.specs.declared.verification.waits.Waits.{Waits}

-- an operation that is noted raises the waits by its delays
pub wait_of-noted : (lat : Latencies) (a : Kind) (cycle : ℕ) (waits : Waits) (k : Kind)
    → wait_of (noted lat a cycle waits) k ≡ fold max (wait_of waits k) (map (λ d. cycle + d) (memory_by lat a k))
wait_of-noted lat K.Load cycle waits K.Load = refl
wait_of-noted lat _ cycle waits K.Load = refl
wait_of-noted lat _ cycle waits _ = refl

module _ (lat : Latencies) (block : List Op) (cycle : ℕ → ℕ) where
  pub waited_for : (j : ℕ) (k : Kind) (c : ℕ) → earliest lat block cycle j k ≤ c → (i d : ℕ) → i < j
      → In (memory_by lat (kind (op_at block i)) k) d → cycle i + d ≤ c
  waited_for zero k c over i d before there = absurd (omega arith)
  waited_for (suc j) k c over i d before there =
      let earlier : earliest lat block cycle j k ≤ earliest lat block cycle (suc j) k =
      le_fold_max (earliest lat block cycle j k) (map (λ e. cycle j + e) (memory_by lat (kind (op_at block j)) k)) in
      elim (cases_eq i j) [
        | inl last ↦
            let here : In (memory_by lat (kind (op_at block j)) k) d =
            subst (λ n. In (memory_by lat (kind (op_at block n)) k) d) last there in
            let most : cycle j + d ≤ earliest lat block cycle (suc j) k =
            fold_max_each (earliest lat block cycle j k) (map (λ e. cycle j + e) (memory_by lat (kind (op_at block j)) k))
            (cycle j + d) (in_map (λ e. cycle j + e) (memory_by lat (kind (op_at block j)) k) d here) in
            rw last (omega arith)
        | inr other ↦ waited_for j k c (omega arith) i d (omega arith) there
      ]

  pub waits_no_more : (j : ℕ) (k : Kind) (c : ℕ)
      → ((i d : ℕ) → i < j → In (memory_by lat (kind (op_at block i)) k) d → cycle i + d ≤ c)
      → earliest lat block cycle j k ≤ c
  waits_no_more zero k c each = omega arith
  waits_no_more (suc j) k c each = grind (arith, fold_max_reached, from_map, waits_no_more j k c (λ i d earlier there. each i d (omega arith) there))

  -- one operation more
  pub noted_next : (i n : ℕ) (a : Kind) (waits waits' : Waits) → a ≡ kind (op_at block i) → n ≡ cycle i
      → ((k : Kind) → wait_of waits k ≡ earliest lat block cycle i k) → waits' ≡ noted lat a n waits → (k : Kind)
      → wait_of waits' k ≡ earliest lat block cycle (i + 1) k
  noted_next i n a waits waits' is at so_far more k = grind (arith, add-one, wait_of-noted)
