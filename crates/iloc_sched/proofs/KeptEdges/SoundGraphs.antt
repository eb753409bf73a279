-- The tables of a graph are sound, by the book and by address; for `Tables::open`, `open_by_address` and the calls of `Graph`.
use Rattle.iloc_sched.proofs.Common.{◌≡◌, ℕ, ◌<◌, ◌⊎◌, List, [], map, length, sym, ap, ◌∙◌, subst, inl, inr, arith, get_or_past, Op, kind, latency, Latencies, by_address, IsDelayPairWhere, counts_by, MemoryRule, Address, Book, GraphOf, IsNearBy, IsByTheBook, IsOfBlock, IsSound, Graph, IsGraphOf, IsGraphWhere, IsEmptied, graph_of, Lasts, Tables}
use Rattle.iloc_rules.specs.Steps.Ways.{GoesBy}
use Rattle.iloc_addresses.proofs.FarPairs.{near_or_by_way as near_or_far_where}
use Rattle.iloc_sched.specs.Steps.Edges.Filling.{IsFilling}
use Rattle.iloc_sched.proofs.KeptEdges.FarPairs.{near_or_by_way as near_or_far}
use Rattle.iloc_sched.proofs.KeptEdges.PartialGraphs.{kept_at_end}

-- what isn't near goes by way of an operation between
near_or_by_way : (rule : MemoryRule) (lat : Latencies) (ops : List Op) (i j d : ℕ) → IsDelayPairWhere (counts_by rule ops) lat ops i j d
    → IsNearBy rule lat ops i j d ⊎ GoesBy (counts_by rule ops) lat ops i j d
near_or_by_way Book lat ops i j d pair = near_or_far lat ops i j d pair
near_or_by_way Address lat ops i j d pair = near_or_far_where (by_address ops) lat ops i j d pair

pub by_ways : (rule : MemoryRule) (lat : Latencies) (ops : List Op) (graph : Graph) → IsGraphOf rule lat ops graph
    → IsGraphWhere (counts_by rule ops) lat ops graph
by_ways rule lat ops graph is = record {
  is_graph = is.is_graph;
  size = is.size;
  sound = is.sound;
  ways = λ i j d pair. elim (near_or_by_way rule lat ops i j d pair) [
    | inl near ↦ inl (is.all i j d pair near)
    | inr by ↦ inr by
  ];
}

pub is_sound : (t : Tables) → t.kinds.items ≡ map kind t.ops.items → t.own.items ≡ map (latency t.latencies) t.ops.items
    → IsGraphOf t.rule t.latencies t.ops.items (graph_of t.edges) → IsSound t
is_sound t kinds own graph = record {
  kinds = kinds;
  own = own;
  graph = by_ways t.rule t.latencies t.ops.items (graph_of t.edges) graph;
  near = graph;
}

pub book_is_sound : (t : Tables) → t.rule ≡ Book → IsByTheBook t → IsSound t
book_is_sound t book is = is_sound t is.kinds is.own
    (subst (λ rule. IsGraphOf rule t.latencies t.ops.items (graph_of t.edges)) (sym book) is.graph)

-- tables to which all operations are added
pub filled_by_the_book : (t : Tables) (lasts : Lasts) → IsFilling t lasts → IsByTheBook t
filled_by_the_book t lasts is = record {
  kinds = is.kinds;
  own = is.own;
  graph = kept_at_end Book t.latencies t.ops.items (graph_of t.edges) is.partial;
}

none_by_the_book : (t : Tables) → t.ops.items ≡ [] → t.kinds.items ≡ [] → t.own.items ≡ [] → IsEmptied t.edges
    → IsByTheBook t
none_by_the_book t ops kinds own edges =
    let start : (k : ℕ) → (graph_of t.edges).start k ≡ 0 =
    λ k. get_or_past t.edges.starts.items k 0 (omega (arith, edges.starts)) in
    record {
      kinds = kinds ∙ ap (map kind) (sym ops);
      own = own ∙ ap (map (latency t.latencies)) (sym ops);
      graph = record {
        is_graph = record {
          rises = λ i j low high. omega (arith, start i, start j);
          last = start (graph_of t.edges).ops ∙ sym edges.edges;
          into = λ j x below low high. absurd (omega (arith, edges.heads));
          to_there = λ x below. absurd (omega (arith, edges.edges));
          earlier = λ x below. absurd (omega (arith, edges.edges));
          delays = λ x below. absurd (omega (arith, edges.edges));
          heads = λ i below. absurd (omega (arith, edges.heads));
          previous_edges = λ x below. absurd (omega (arith, edges.edges));
        };
        size = edges.heads ∙ sym (ap length ops);
        sound = λ x below. absurd (omega (arith, edges.edges));
        near = λ x below. absurd (omega (arith, edges.edges));
        all = λ i j d pair near. absurd (none j (subst (λ xs. j < length xs) ops pair.within));
      };
    }
  where
    none : (j : ℕ) → j < 0 → ⊥
    none j below = omega arith

-- no operation
pub none_is_of_block : (t : Tables) → t.ops.items ≡ [] → t.kinds.items ≡ [] → t.own.items ≡ [] → IsEmptied t.edges
    → t.rule ≡ Book → IsOfBlock t
none_is_of_block t ops kinds own edges book = record {
  sound = book_is_sound t book (none_by_the_book t ops kinds own edges);
  block = [];
  named = ops;
}

-- a graph has the edges of its near pairs
pub near_graph : (t : Tables) (v : GraphOf) → IsSound t
    → record { rule = t.rule; ops = t.ops.items; latencies = t.latencies } ≡ v
    → IsGraphOf v.rule v.latencies v.ops (graph_of t.edges)
near_graph t v sound is =
    subst (λ (x : GraphOf). IsGraphOf x.rule x.latencies x.ops (graph_of t.edges)) is sound.near

-- by any rule its edges are delay pairs
pub ruled_graph : (t : Tables) (v : GraphOf) → IsSound t
    → record { rule = t.rule; ops = t.ops.items; latencies = t.latencies } ≡ v
    → IsGraphWhere (counts_by v.rule v.ops) v.latencies v.ops (graph_of t.edges)
ruled_graph t v sound is =
    subst (λ (x : GraphOf). IsGraphWhere (counts_by x.rule x.ops) x.latencies x.ops (graph_of t.edges)) is sound.graph
