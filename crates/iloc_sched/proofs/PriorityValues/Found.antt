-- Numbers that the kept edges have raised are the priorities and the starts; for `chains`, `starts` and `tails`.
use Rattle.iloc_sched.proofs.Common.{◌≡◌, ℕ, ◌+◌, ◌<◌, ◌≤◌, max, List, map, length, get_or, set, replicate, sym, ◌∙◌, subst, arith, ext_get_or, get_or-map, get_or-replicate, get_or_read, length-map, length-replicate, Op, op_at, latency, Latencies, length_where, priority_least_where, length-starts_where, start_least_where, Counts, priorities_where, counts_by, starts_where, ArePrioritiesFrom, AreRaised, AreStartsBefore, IsSound, Graph, IsGraph, IsGraphWhere, edge_at, graph_of, Edge, Tables}
use Rattle.iloc_rules.specs.Steps.Chains.{IsChainOutWhere}
use Rattle.iloc_sched.proofs.PriorityValues.Chains.{raise_from, over_pairs}

-- what is known of an edge that was read
pub read_edge : (t : Tables) → IsGraph (graph_of t.edges) → length t.edges.heads.items ≡ length t.ops.items → (x : ℕ) (edge : Edge) → x < length t.edges.edges.items
    → edge ≡ edge_at t.edges x
    → (edge.from < edge.to) × (edge.to < length t.ops.items) × (edge.delay ≤ 16) × (length t.ops.items ≤ 10000)
read_edge t is_graph size x edge below is =
    grind (arith, is_graph.to_there x below, is_graph.earlier x below, is_graph.delays x below, t.edges.short)

-- edge x was read, and raised the number of its first operation by that of its second
pub raise_read : (t : Tables) → IsSound t → (chain value : ℕ → ℕ) → IsChainOutWhere (counts_by t.rule t.ops.items) t.latencies t.ops.items chain value
    → (found : List ℕ) (j x next : ℕ) (edge : Edge) (first second most : ℕ)
    → AreRaised t.latencies t.ops.items (graph_of t.edges) chain value found j next → next ≡ x + 1
    → x < length t.edges.edges.items → edge ≡ edge_at t.edges x → edge.from < j → second ≡ get_or found edge.to second
    → first ≡ get_or found edge.from first → most ≡ max first (edge.delay + second)
    → AreRaised t.latencies t.ops.items (graph_of t.edges) chain value (set found edge.from most) j x
raise_read t sound chain value is found j x next edge first second most raised next_is below edge_is early second_is first_is
    most_is =
    let lat : Latencies = t.latencies in
    let ops : List Op = t.ops.items in
    let graph : Graph = graph_of t.edges in
    let known = read_edge t sound.graph.is_graph sound.graph.size x edge below edge_is in
    let size : length found ≡ length ops = raised.size in
    let read : second ≡ get_or found edge.to 0 = get_or_read found edge.to second (omega arith) second_is 0 in
    let old : first ≡ get_or found edge.from 0 = get_or_read found edge.from first (omega arith) first_is 0 in
    rw (most_is, old, read, edge_is) (raise_from (counts_by t.rule t.ops.items) lat ops graph sound.graph (λ i. latency lat (op_at ops i)) chain value
    found j x below is (subst (AreRaised lat ops graph chain value found j) next_is raised)
    (subst (λ e. e.from < j) edge_is early))

module _ (counts : Counts) (lat : Latencies) (ops : List Op) (graph : Graph) (is : IsGraphWhere counts lat ops graph) where
  -- latencies, while no edge has raised them
  pub none_raised : (chain value : ℕ → ℕ) → IsChainOutWhere counts lat ops chain value → (own : List ℕ) → own ≡ map (latency lat) ops
      → AreRaised lat ops graph chain value own graph.ops graph.count
  none_raised chain value chains own own_is = grind (arith, get_or-map, length-map)

  pub priorities_found : (found : List ℕ) → ArePrioritiesFrom counts lat ops graph found 0 → found ≡ priorities_where counts lat ops
  priorities_found found raised =
      let size : length (priorities_where counts lat ops) ≡ length ops = length_where counts lat ops in
      ext_get_or 0 found (priorities_where counts lat ops) (raised.size ∙ sym size) (λ i below.
      let within : i < length ops = omega (arith, raised.size) in
      let least = priority_least_where counts lat ops (λ k. get_or found k 0) raised.own (λ k j d pair.
      let over = over_pairs counts lat ops graph is (λ n. 0) (λ n. get_or found n 0) 0
      (λ y there low. omega (arith, raised.over y (omega arith, there))) k j d (omega arith) pair in
      omega arith) i within in
      omega (arith, raised.upper i within within))

  pub starts_none : (own : List ℕ) → own ≡ replicate graph.ops 0 → AreStartsBefore counts lat ops graph own 0
  starts_none own own_is = grind (arith, get_or-replicate, length-replicate)

  pub starts_found : (found : List ℕ) → AreStartsBefore counts lat ops graph found graph.count → found ≡ starts_where counts lat ops
  starts_found found raised =
      let size : length (starts_where counts lat ops) ≡ length ops = length-starts_where counts lat ops in
      ext_get_or 0 found (starts_where counts lat ops) (raised.size ∙ sym size) (λ j below.
      let within : j < length ops = omega (arith, raised.size) in
      let least = start_least_where counts lat ops (λ k. get_or found k 0) (λ i k d pair.
      let over = over_pairs counts lat ops graph is (λ n. get_or found n 0) (λ n. 0) 0
      (λ y there low. omega (arith, raised.over y (there, there))) i k d (omega arith) pair in
      omega arith) j within in
      omega (arith, raised.upper j within within))
