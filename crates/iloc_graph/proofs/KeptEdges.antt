-- The delay pairs that a graph keeps as edges imply all.
use Rattle.iloc_graph.proofs.Common.{ℕ, ◌+◌, ◌≤◌, List, map, get_or, All, subst, Op, Latencies, contains_from, from_map, in_at, in_from, in_map, IsDelayPairWhere, counts_by, Pair, MemoryRule, Edge}
use Rattle.iloc_explain.specs.Measures.{ImplyAll}

abbrev pub kept_pair : Edge → Pair
kept_pair e = record { first = e.from; second = e.to; delay = e.delay }

pub edges_imply : (rule : MemoryRule) (lat : Latencies) (ops : List Op) (edges : List Edge)
    → All (λ (e : Edge). IsDelayPairWhere (counts_by rule ops) lat ops e.from e.to e.delay) edges
    → ((cycle : ℕ → ℕ) → All (λ (e : Edge). cycle e.from + e.delay ≤ cycle e.to) edges
    → (i j d : ℕ) → IsDelayPairWhere (counts_by rule ops) lat ops i j d → cycle i + d ≤ cycle j)
    → ImplyAll rule lat ops (map kept_pair edges)
edges_imply rule lat ops edges each all = record {
  each = λ p there.
      let found = from_map kept_pair edges p (in_from (map kept_pair edges) p there) in
      let at = contains_from edges found.0 found.1 in
      subst (λ (q : Pair). IsDelayPairWhere (counts_by rule ops) lat ops q.first q.second q.delay) found.2
      (subst (λ (e : Edge). IsDelayPairWhere (counts_by rule ops) lat ops e.from e.to e.delay) at.2 (each at.0 found.0 at.1));
  imply = λ cycle waits. all cycle (λ x d within. waits (kept_pair (get_or edges x d))
      (contains_from (map kept_pair edges) (kept_pair (get_or edges x d))
      (in_map kept_pair edges (get_or edges x d) (in_at edges x d within))));
}
