-- The edges that are added to an operation are its near pairs; for `Edges::add_all` and what it calls.
use Rattle.iloc_sched.proofs.Common.{◌≡◌, ℕ, ◌+◌, ◌<◌, ◌≤◌, List, [], ◌∷◌, ◌++◌, length, get_or, set, Some, None, Contains, Option, sym, refl, ap, ◌∙◌, subst, inl, inr, arith, length-set, get_or-set_other, get_or-set_same, get_or_append_left, get_or_push, length_push, used, Op, Reg, op_at, kind, latency, Latencies, from_append, in_from, in_left, in_right, IsRenamed, In, MemoryRule, Book, IsLasts, AddsFrom, CoversMemory, CoversUse, CoversUses, Grows, HasEdge, HasOneMore, IsNearPairBy, IsPartialGraph, Graph, number_at, no_edge, Edge, Lasts}
use Rattle.iloc_timed.specs.declared.kind.Kind.TheVariants as K
use Rattle.iloc_sched.proofs.Basics.Cases.{same_some}
use Rattle.iloc_sched.proofs.KeptEdges.PartialGraphs.{grows_by_one, has_new, grows_then}
use Rattle.iloc_sched.proofs.KeptEdges.NearPairs.{covers_load, covers_output, covers_store, covers_use, store_before, output_before, load_before_store, use_pair}

-- the graph of three tables
abbrev pub tables_graph : List Edge → List ℕ → List (Option ℕ) → Graph
tables_graph edges starts heads = record {
  ops = length heads;
  count = length edges;
  from = λ x. (get_or edges x no_edge).from;
  to = λ x. (get_or edges x no_edge).to;
  delay = λ x. (get_or edges x no_edge).delay;
  start = λ j. get_or starts j 0;
  head = λ i. get_or heads i None;
  previous = λ x. (get_or edges x no_edge).previous;
}

pub one_more : (edges : List Edge) (starts : List ℕ) (heads : List (Option ℕ)) (i j d : ℕ) (edge : Edge)
    → i < length heads
    → edge.from ≡ i → edge.to ≡ j → edge.delay ≡ d → edge.previous ≡ get_or heads i None
    → HasOneMore (tables_graph edges starts heads)
    (tables_graph (edges ++ edge ∷ []) starts (set heads i (Some (length edges)))) i j d
one_more edges starts heads i j d edge there from_is to_is delay_is previous_is =
    grind (arith, get_or-set_other, get_or-set_same, get_or_append_left, get_or_push, length-set, length_push)

-- one edge is pushed, and it is the last from i
pub adds_one : (edges edges' : List Edge) (starts : List ℕ) (heads : List (Option ℕ)) (i j d place : ℕ)
    (previous : Option ℕ) → i < length heads
    → place ≡ length edges → previous ≡ get_or heads i None
    → edges' ≡ edges ++ record { from = i; to = j; delay = d; previous = previous } ∷ []
    → AddsFrom (λ k. k ≡ i) (tables_graph edges starts heads) (tables_graph edges' starts (set heads i (Some place))) j
    d
adds_one edges edges' starts heads i j d place previous there place_is previous_is pushed =
    subst (λ es. AddsFrom (λ k. k ≡ i) (tables_graph edges starts heads)
    (tables_graph es starts (set heads i (Some place))) j d) (sym pushed)
    (subst (λ p. AddsFrom (λ k. k ≡ i) (tables_graph edges starts heads)
    (tables_graph (edges ++ record { from = i; to = j; delay = d; previous = previous } ∷ []) starts (set heads i (Some p)))
    j d) (sym place_is)
    (λ rule lat ops is pairs.
    let edge : Edge = record { from = i; to = j; delay = d; previous = previous } in
    let more : HasOneMore (tables_graph edges starts heads)
    (tables_graph (edges ++ edge ∷ []) starts (set heads i (Some (length edges)))) i j d =
    one_more edges starts heads i j d edge there refl refl refl previous_is in
    let pair : IsNearPairBy rule lat ops i j d = pairs i refl in (
      grows_by_one rule lat ops (tables_graph edges starts heads)
          (tables_graph (edges ++ edge ∷ []) starts (set heads i (Some (length edges)))) i j d is pair more,
      λ k same. subst (λ m. HasEdge (tables_graph (edges ++ edge ∷ []) starts (set heads i (Some (length edges)))) j m d)
          (sym same) (has_new rule lat ops (tables_graph edges starts heads)
          (tables_graph (edges ++ edge ∷ []) starts (set heads i (Some (length edges)))) i j d is pair more),
    )))

pub adds_some : (o : Option ℕ) (i : ℕ) (a b : Graph) (j d : ℕ) → o ≡ Some i → AddsFrom (λ k. k ≡ i) a b j d
    → AddsFrom (λ k. o ≡ Some k) a b j d
adds_some o i a b j d at adds = λ rule lat ops is pairs.
    let h = adds rule lat ops is (λ k same. pairs k (at ∙ ap Some (sym same))) in
    (h.0, λ k at_k. h.1 k (same_some o k i at_k at))

pub adds_more : (front : List ℕ) (x : ℕ) (a b c : Graph) (j d : ℕ) → AddsFrom (In front) a b j d
    → AddsFrom (λ k. k ≡ x) b c j d → AddsFrom (In (front ++ x ∷ [])) a c j d
adds_more front x a b c j d first second = λ rule lat ops is pairs.
    let h = first rule lat ops is (λ k held. pairs k (in_left front (x ∷ []) k held)) in
    let g = second rule lat ops h.0.partial (λ k same. pairs k (in_right front (x ∷ []) k (inl (sym same)))) in (
      grows_then rule lat ops a b c j h.0 g.0,
      λ k held. elim (from_append front (x ∷ []) k held) [
        | inl before ↦ g.0.keeps k d (h.1 k before)
        | inr last ↦ elim last [ inl same ↦ g.1 k (sym same) | inr none ↦ absurd none ]
      ],
    )

module _ (lat : Latencies) (ops : List Op) (lasts : Lasts) (j : ℕ) (is : IsLasts ops lasts j) (within : j < length ops)
  where
    pub adds_use : (rule : MemoryRule) (a b : Graph) (r : Reg) (i d : ℕ) → IsRenamed ops → Contains (used (op_at ops j)) r
        → IsPartialGraph rule lat ops a j → number_at lasts.definers r.0 ≡ Some i → d ≡ latency lat (op_at ops i)
        → AddsFrom (λ k. k ≡ i) a b j d → Grows rule lat ops a b j × CoversUse lat ops b j r
    adds_use rule a b r i d renamed uses partial at long adds =
        let pair : IsNearPairBy rule lat ops i j d =
        subst (λ e. IsNearPairBy rule lat ops i j e) (sym long) (use_pair lat ops j lasts is rule within r uses i at) in
        let h = adds rule lat ops partial (λ k same. subst (λ m. IsNearPairBy rule lat ops m j d) (sym same) pair) in (
          h.0,
          covers_use lat ops j lasts is b renamed r
              (grind arith),
        )

    pub memory_load : (a b : Graph) → IsPartialGraph Book lat ops a j → kind (op_at ops j) ≡ K.Load
        → AddsFrom (λ i. lasts.store ≡ Some i) a b j lat.store → Grows Book lat ops a b j × CoversMemory lat ops b j
    memory_load a b partial kind_is stored =
        let h = stored Book lat ops partial (store_before lat ops j lasts is K.Load lat.store (inl refl) within kind_is) in
        (h.0, covers_load lat ops j lasts is b kind_is h.1)

    pub memory_output : (a b c : Graph) → IsPartialGraph Book lat ops a j → kind (op_at ops j) ≡ K.Output
        → AddsFrom (λ i. lasts.store ≡ Some i) a b j lat.store → AddsFrom (λ i. lasts.output ≡ Some i) b c j 1
        → Grows Book lat ops a c j × CoversMemory lat ops c j
    memory_output a b c partial kind_is stored emitted =
        let h = stored Book lat ops partial (store_before lat ops j lasts is K.Output lat.store (inl refl) within kind_is) in
        let g = emitted Book lat ops h.0.partial (output_before lat ops j lasts is K.Output 1 (inl refl) within kind_is) in (
          grows_then Book lat ops a b c j h.0 g.0,
          covers_output lat ops j lasts is c kind_is (λ i at. g.0.keeps i lat.store (h.1 i at)) g.1,
        )

    pub memory_store : (a b c e : Graph) → IsPartialGraph Book lat ops a j → kind (op_at ops j) ≡ K.Store
        → AddsFrom (λ i. lasts.store ≡ Some i) a b j 1 → AddsFrom (λ i. lasts.output ≡ Some i) b c j 1
        → AddsFrom (In lasts.loads.items) c e j 1 → Grows Book lat ops a e j × CoversMemory lat ops e j
    memory_store a b c e partial kind_is stored emitted loaded =
        let h = stored Book lat ops partial (store_before lat ops j lasts is K.Store 1 (inl refl) within kind_is) in
        let g = emitted Book lat ops h.0.partial (output_before lat ops j lasts is K.Store 1 (inl refl) within kind_is) in
        let f = loaded Book lat ops g.0.partial (load_before_store lat ops j lasts is within kind_is) in (
          grows_then Book lat ops a c e j (grows_then Book lat ops a b c j h.0 g.0) f.0,
          covers_store lat ops j lasts is e kind_is
              (λ i at. f.0.keeps i 1 (g.0.keeps i 1 (h.1 i at)))
              (λ i at. f.0.keeps i 1 (g.1 i at))
              f.1,
        )

-- what grows still covers
pub use_covered : (rule : MemoryRule) (lat : Latencies) (ops : List Op) (a b : Graph) (j : ℕ) (r : Reg) → Grows rule lat ops a b j
    → CoversUse lat ops a j r → CoversUse lat ops b j r
use_covered rule lat ops a b j r grows covers =
    λ i below defines. grows.keeps i (latency lat (op_at ops i)) (covers i below defines)

-- one register more of those used
pub uses_more : (rule : MemoryRule) (lat : Latencies) (ops : List Op) (a b : Graph) (j : ℕ) (front : List Reg) (r : Reg)
    → Grows rule lat ops a b j → ((s : Reg) → In front s → CoversUse lat ops a j s) → CoversUse lat ops b j r → (s : Reg)
    → In (front ++ r ∷ []) s → CoversUse lat ops b j s
uses_more rule lat ops a b j front r grows before last s held =
    elim (from_append front (r ∷ []) s held) [
      | inl early ↦ use_covered rule lat ops a b j s grows (before s early)
      | inr late ↦ elim late [ inl same ↦ subst (λ q. CoversUse lat ops b j q) same last | inr none ↦ absurd none ]
    ]

-- the start of the next operation is pushed
pub starts_pushed : (starts starts' : List ℕ) (n j : ℕ) → starts' ≡ starts ++ n ∷ [] → length starts ≡ j + 1
    → ((b : ℕ) → b ≤ j → get_or starts' b 0 ≡ get_or starts b 0) × (get_or starts' (j + 1) 0 ≡ n)
starts_pushed starts starts' n j pushed size = grind (arith, get_or_append_left, get_or_push)

pub covers_along : (lat : Latencies) (ops : List Op) (graph : Graph) (j : ℕ) (taken regs : List Reg) → taken ≡ regs
    → regs ≡ used (op_at ops j) → ((r : Reg) → In taken r → CoversUse lat ops graph j r) → CoversUses lat ops graph j
covers_along lat ops graph j taken regs all are covers = λ r held.
    covers r (subst (λ xs. In xs r) (sym (all ∙ are)) (in_from (used (op_at ops j)) r held))

-- the one register that an operation uses has its edges
pub one_covered : (lat : Latencies) (ops : List Op) (graph : Graph) (j : ℕ) (r : Reg) → r ∷ [] ≡ used (op_at ops j)
    → CoversUse lat ops graph j r → CoversUses lat ops graph j
one_covered lat ops graph j r are covered = grind (arith, covers_along)

-- both have
pub two_covered : (rule : MemoryRule) (lat : Latencies) (ops : List Op) (a b : Graph) (j : ℕ) (left right : Reg)
    → left ∷ right ∷ [] ≡ used (op_at ops j) → Grows rule lat ops a b j → CoversUse lat ops a j left → CoversUse lat ops b j right
    → CoversUses lat ops b j
two_covered rule lat ops a b j left right are grows first second =
    let of_left : (s : Reg) → In (left ∷ []) s → CoversUse lat ops a j s = grind arith in
    covers_along lat ops b j (left ∷ right ∷ []) (left ∷ right ∷ []) refl are
    (uses_more rule lat ops a b j (left ∷ []) right grows of_left second)
