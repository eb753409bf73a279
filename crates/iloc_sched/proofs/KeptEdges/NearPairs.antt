-- A near pair is a use, or comes from what stands last before the operation; for `Edges::add_all`.
use Rattle.iloc_sched.proofs.Common.{◌≡◌, ℕ, ◌<◌, Bool, true, false, List, length, if◌then◌else◌, Some, Contains, sym, refl, subst, inl, inr, arith, false_from_ne_true, false≢true, defined, used, Op, Reg, is_register, op_at, is_load, is_output, is_store, kind, latency, Kind, Latencies, any_at, contains_from, from_any, in_from, in_left, in_right, kind_delays, IsDelayPair, delays_where, memory_delays, memory_delays_where, uses_result, when, IsRenamed, counts_by, In, MemoryRule, Address, Book, IsNear, NoneBetween, IsLasts, CoversMemory, CoversUse, CoversUses, HasEdge, IsNearBy, IsNearPairBy, Graph, number_at, Lasts}
use Rattle.iloc_timed.specs.declared.kind.Kind.TheVariants as K
use Rattle.iloc_rules.proofs.Basics.Registers.{is_register_same, is_register_from}
use Rattle.iloc_sched.proofs.Basics.LastOnes.{last_is}
use Rattle.iloc_rules.proofs.Basics.Kinds.{store_is, output_is}

load_is : (k : Kind) → is_load k ≡ true → k ≡ K.Load
load_is k holds = grind arith

module _ (lat : Latencies) (ops : List Op) (j : ℕ) (lasts : Lasts) (is : IsLasts ops lasts j) where
  last_store : (i : ℕ) → i < j → kind (op_at ops i) ≡ K.Store → NoneBetween ops i j → lasts.store ≡ Some i
  last_store i below kind_is none = grind (arith, false≢true, last_is)

  last_output : (i : ℕ) → i < j → kind (op_at ops i) ≡ K.Output → NoneBetween ops i j → lasts.output ≡ Some i
  last_output i below kind_is none = grind (arith, false≢true, last_is)

  recent_load : (i : ℕ) → i < j → kind (op_at ops i) ≡ K.Load → NoneBetween ops i j → In lasts.loads.items i
  recent_load i below kind_is none = grind arith

  -- the delays into an operation of a kind
  delays_into : (k : Kind) → kind (op_at ops j) ≡ k → (i d : ℕ)
      → Contains (memory_delays lat (op_at ops i) (op_at ops j)) d → In (kind_delays lat (kind (op_at ops i)) k) d
  delays_into k kind_is i d held = grind (arith, in_from)

  module _ (graph : Graph) where
    pub covers_load : kind (op_at ops j) ≡ K.Load → ((i : ℕ) → lasts.store ≡ Some i → HasEdge graph j i lat.store)
        → CoversMemory lat ops graph j
    covers_load kind_is stored = grind (arith, delays_into, last_store)

    pub covers_output : kind (op_at ops j) ≡ K.Output → ((i : ℕ) → lasts.store ≡ Some i → HasEdge graph j i lat.store)
        → ((i : ℕ) → lasts.output ≡ Some i → HasEdge graph j i 1) → CoversMemory lat ops graph j
    covers_output kind_is stored emitted = grind (arith, delays_into, last_output, last_store)

    pub covers_store : kind (op_at ops j) ≡ K.Store → ((i : ℕ) → lasts.store ≡ Some i → HasEdge graph j i 1)
        → ((i : ℕ) → lasts.output ≡ Some i → HasEdge graph j i 1)
        → ((i : ℕ) → In lasts.loads.items i → HasEdge graph j i 1) → CoversMemory lat ops graph j
    covers_store kind_is stored emitted loaded = grind (arith, delays_into, last_output, last_store, recent_load)

    -- a used register's definition is the one that is noted
    pub covers_use : IsRenamed ops → (r : Reg)
        → ((i : ℕ) → number_at lasts.definers r.0 ≡ Some i → HasEdge graph j i (latency lat (op_at ops i)))
        → CoversUse lat ops graph j r
    covers_use renamed r noted = grind (arith, last_is)

  -- what takes the place of one of a kind
  abbrev Replaced : Kind → ℕ → Bool
  Replaced a k = if is_output a then is_output (kind (op_at ops k)) else is_store (kind (op_at ops k))

  memory_pair : (i d : ℕ) → i < j → j < length ops → (a b : Kind) → kind (op_at ops i) ≡ a → kind (op_at ops j) ≡ b
      → In (kind_delays lat a b) d → ((k : ℕ) → i < k → k < j → Replaced a k ≡ false) → IsNearPairBy Book lat ops i j d
  memory_pair i d below within a b i_is j_is held none = grind (arith, contains_from, in_right)

  store_there : (i : ℕ) → lasts.store ≡ Some i
      → (i < j) × (kind (op_at ops i) ≡ K.Store) × ((k : ℕ) → i < k → k < j → Replaced K.Store k ≡ false)
  store_there i at = grind (arith, false_from_ne_true, store_is)

  output_there : (i : ℕ) → lasts.output ≡ Some i
      → (i < j) × (kind (op_at ops i) ≡ K.Output) × ((k : ℕ) → i < k → k < j → Replaced K.Output k ≡ false)
  output_there i at = grind (arith, false_from_ne_true, output_is)

  pub definer_there : (r : Reg) (i : ℕ) → number_at lasts.definers r.0 ≡ Some i
      → (i < j) × (defined (op_at ops i) ≡ Some r)
  definer_there r i at = grind arith

  pub store_before : (b : Kind) (d : ℕ) → In (kind_delays lat K.Store b) d → j < length ops → kind (op_at ops j) ≡ b
      → (i : ℕ) → lasts.store ≡ Some i → IsNearPairBy Book lat ops i j d
  store_before b d delay within kind_is i at = let h = store_there i at in
      memory_pair i d h.0 within K.Store b h.1 kind_is delay h.2

  pub output_before : (b : Kind) (d : ℕ) → In (kind_delays lat K.Output b) d → j < length ops → kind (op_at ops j) ≡ b
      → (i : ℕ) → lasts.output ≡ Some i → IsNearPairBy Book lat ops i j d
  output_before b d delay within kind_is i at = let h = output_there i at in
      memory_pair i d h.0 within K.Output b h.1 kind_is delay h.2

  pub load_before_store : j < length ops → kind (op_at ops j) ≡ K.Store → (i : ℕ) → In lasts.loads.items i
      → IsNearPairBy Book lat ops i j 1
  load_before_store within kind_is i held = let h = is.loads i held in
      memory_pair i 1 h.0 within K.Load K.Store (load_is (kind (op_at ops i)) h.1) kind_is (inl refl) h.2

  near_by_use : (rule : MemoryRule) (i : ℕ) → uses_result (op_at ops i) (op_at ops j) ≡ true
      → IsNearBy rule lat ops i j (latency lat (op_at ops i))
  near_by_use Book i test = inl (test, refl)
  near_by_use Address i test = inl (test, refl)

  pub use_pair : (rule : MemoryRule) → j < length ops → (r : Reg) → Contains (used (op_at ops j)) r → (i : ℕ)
      → number_at lasts.definers r.0 ≡ Some i → IsNearPairBy rule lat ops i j (latency lat (op_at ops i))
  use_pair rule within r uses i at =
      let h = definer_there r i at in
      let test : uses_result (op_at ops i) (op_at ops j) ≡ true =
      any_at (λ s. is_register s (defined (op_at ops i))) (used (op_at ops j)) r (in_from (used (op_at ops j)) r uses)
      (is_register_from r (defined (op_at ops i)) h.1) in
      record {
        order = h.0;
        within = within;
        delay = contains_from (delays_where (counts_by rule ops i j) lat (op_at ops i) (op_at ops j)) (latency lat (op_at ops i))
            (in_left (when (uses_result (op_at ops i) (op_at ops j)) (latency lat (op_at ops i)))
            (memory_delays_where (counts_by rule ops i j) lat (op_at ops i) (op_at ops j)) (latency lat (op_at ops i))
            (subst (λ b. In (when b (latency lat (op_at ops i))) (latency lat (op_at ops i))) (sym test) (inl refl)));
        near = near_by_use rule i test;
      }

-- what j uses has its edge
pub use_is_covered : (lat : Latencies) (ops : List Op) (graph : Graph) (j : ℕ) → CoversUses lat ops graph j → (i : ℕ)
    → i < j → uses_result (op_at ops i) (op_at ops j) ≡ true → HasEdge graph j i (latency lat (op_at ops i))
use_is_covered lat ops graph j uses i order result =
    let found = from_any (λ r. is_register r (defined (op_at ops i))) (used (op_at ops j)) result in
    uses found.0 (contains_from (used (op_at ops j)) found.0 found.1) i order
    (is_register_same found.0 (defined (op_at ops i)) found.2)

-- a near pair is a use, or one by memory
pub near_is_covered : (lat : Latencies) (ops : List Op) (graph : Graph) (j : ℕ) → CoversUses lat ops graph j
    → CoversMemory lat ops graph j → (i d : ℕ) → IsDelayPair lat ops i j d → IsNear lat ops i j d → HasEdge graph j i d
near_is_covered lat ops graph j uses memory i d pair near =
    elim near [
      | inl result ↦
          subst (λ e. HasEdge graph j i e) (sym result.1) (use_is_covered lat ops graph j uses i pair.order result.0)
      | inr by ↦ memory i d pair.order by.0 by.1
    ]
