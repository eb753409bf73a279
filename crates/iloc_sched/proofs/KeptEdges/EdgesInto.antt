-- Who waits for the kept edges waits for all delays, and the edges into an operation are side by side; for `Graph::edges` and
-- `edges_into`.
use Rattle.iloc_sched.proofs.Common.{◌≡◌, ℕ, zero, suc, ◌+◌, ◌-◌, ◌<◌, ◌≤◌, List, length, get_or, take, drop, All, Any, sym, ap, ◌∙◌, subst, inl, inr, arith, length-drop, length-take, get_or-drop, get_or-take, get_or_default, Op, Latencies, Counts, IsDelayPairWhere, MemoryRule, IsNearPairBy, Graph, IsGraph, IsGraphOf, IsGraphWhere, edge_at, no_edge, graph_of, Edge, Edges}

module _ (counts : Counts) (lat : Latencies) (ops : List Op) (e : Edges) (kept : IsGraphWhere counts lat ops (graph_of e))
    (cycle : ℕ → ℕ) (waits : All (λ (edge : Edge). cycle edge.from + edge.delay ≤ cycle edge.to) e.edges.items) where
  waits_within : (n i j d : ℕ) → j ≤ i + n → IsDelayPairWhere counts lat ops i j d → cycle i + d ≤ cycle j
  waits_within zero i j d few pair = let order : i < j = pair.order in absurd (omega arith)
  waits_within (suc n) i j d few pair = elim (kept.ways i j d pair) [
    | inl (x, below, to, from, long) ↦
        let over : cycle (edge_at e x).from + (edge_at e x).delay ≤ cycle (edge_at e x).to = waits x no_edge below in
        let first : cycle (edge_at e x).from ≡ cycle i = ap cycle from in
        let second : cycle (edge_at e x).to ≡ cycle j = ap cycle to in
        omega arith
    | inr by ↦
        let after : i < by.way = by.first.order in
        let before : by.way < j = by.second.order in
        let first : cycle i + by.first_delay ≤ cycle by.way = waits_within n i by.way by.first_delay (omega arith) by.first in
        let second : cycle by.way + by.second_delay ≤ cycle j = waits_within n by.way j by.second_delay (omega arith) by.second in
        let enough : d ≤ by.first_delay + by.second_delay = by.enough in
        omega arith
  ]

  pub waits_for_all : (i j d : ℕ) → IsDelayPairWhere counts lat ops i j d → cycle i + d ≤ cycle j
  waits_for_all i j d pair = waits_within j i j d (omega arith) pair

-- what holds of each edge holds of those into operation j, of each with where it leads
module _ (e : Edges) (is : IsGraph (graph_of e)) (Is : ℕ → ℕ → ℕ → Type 0)
    (each : (x : ℕ) → x < (graph_of e).count → Is ((graph_of e).from x) ((graph_of e).to x) ((graph_of e).delay x)) (j : ℕ)
    (there : j < (graph_of e).ops) where
  abbrev graph : Graph
  graph = graph_of e

  abbrev first : ℕ
  first = graph.start j

  abbrev count : ℕ
  count = graph.start (j + 1) - graph.start j

  abbrev into : List Edge
  into = take count (drop first e.edges.items)

  bounds : (graph.start j ≤ graph.start (j + 1)) × (graph.start (j + 1) ≤ length e.edges.items)
  bounds =
      grind arith

  size : length into ≡ count
  size = grind (arith, length-drop, length-take)

  read : (k : ℕ) (d : Edge) → k < count → get_or into k d ≡ edge_at e (first + k)
  read k d below = grind (arith, get_or-drop, get_or-take, get_or_default)

  pub each_into : All (λ (edge : Edge). (edge.to ≡ j) × Is edge.from j edge.delay) into
  each_into k d within =
      let most = bounds.1 in
      let below : k < count = subst (λ n. k < n) size within in
      let x : ℕ = first + k in
      let counted : x < graph.count = omega arith in
      let to_is : graph.to x ≡ j = is.into j x there (omega arith) (omega arith) in
      let holds : Is (graph.from x) (graph.to x) (graph.delay x) = each x counted in
      subst (λ (edge : Edge). (edge.to ≡ j) × Is edge.from j edge.delay) (sym (read k d below))
      (to_is, subst (λ t. Is (graph.from x) t (graph.delay x)) to_is holds)

  -- one that leads there is among them
  pub is_into : (i d x : ℕ) → x < graph.count → graph.to x ≡ j → graph.from x ≡ i → d ≤ graph.delay x
      → Any (λ (edge : Edge). (edge.from ≡ i) × (d ≤ edge.delay)) into
  is_into i d x counted to_is from_is long =
      let at = is.to_there x counted in
      let after : first ≤ x = subst (λ t. graph.start t ≤ x) to_is at.1 in
      let before : x < graph.start (j + 1) = subst (λ t. x < graph.start (t + 1)) to_is at.2 in
      let k : ℕ = x - first in
      let here : first + k ≡ x = omega arith in (
        k,
        edge_at e x,
        subst (λ n. k < n) (sym size) (omega arith),
        read k (edge_at e x) (omega arith) ∙ ap (edge_at e) here,
        (from_is, long),
      )

module _ (rule : MemoryRule) (lat : Latencies) (ops : List Op) (e : Edges) (kept : IsGraphOf rule lat ops (graph_of e)) (j : ℕ)
    (there : j < length ops) where
  -- each edge is near
  near_edge : (x : ℕ) → x < (graph_of e).count
      → IsNearPairBy rule lat ops ((graph_of e).from x) ((graph_of e).to x) ((graph_of e).delay x)
  near_edge x below =
      let pair = kept.sound x below in
      record { order = pair.order; within = pair.within; delay = pair.delay; near = kept.near x below }

  inside : j < (graph_of e).ops
  inside = subst (λ n. j < n) (sym kept.size) there

  pub near_into : All (λ (edge : Edge). (edge.to ≡ j) × IsNearPairBy rule lat ops edge.from j edge.delay)
      (take ((graph_of e).start (j + 1) - (graph_of e).start j) (drop ((graph_of e).start j) e.edges.items))
  near_into = each_into e kept.is_graph (IsNearPairBy rule lat ops) near_edge j inside

  pub all_into : (i d : ℕ) → IsNearPairBy rule lat ops i j d → Any (λ (edge : Edge). (edge.from ≡ i) × (d ≤ edge.delay))
      (take ((graph_of e).start (j + 1) - (graph_of e).start j) (drop ((graph_of e).start j) e.edges.items))
  all_into i d near =
      let found = kept.all i j d (record { order = near.order; within = near.within; delay = near.delay }) near.near in
      is_into e kept.is_graph (IsNearPairBy rule lat ops) near_edge j inside i d found.0 found.1 found.2 found.3 found.4
