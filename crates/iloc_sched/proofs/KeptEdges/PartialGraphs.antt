-- The kept edges grow edge by edge and operation by operation; for `Edges::add` and `add_all`.
use Rattle.iloc_sched.proofs.Common.{◌≡◌, ℕ, ◌+◌, ◌<◌, ◌≤◌, List, length, sym, ap, ◌∙◌, subst, arith, Op, op_at, Latencies, delay_at_least_where, short_delay_where, IsDelayPairWhere, counts_by, MemoryRule, Grows, HasEdge, HasOneMore, IsNearBy, IsNearPairBy, IsPartialGraph, Graph, IsGraph, IsGraphOf, IsLast, LeadsTo}
use Rattle.iloc_sched.proofs.Basics.Cases.{by_eq, by_lt}
use Rattle.iloc_sched.proofs.Basics.LastOnes.{last_same, last_here, last_before}

pair_along : (rule : MemoryRule) (lat : Latencies) (ops : List Op) (i i' j j' d d' : ℕ) → i' ≡ i → j' ≡ j → d' ≡ d
    → IsNearPairBy rule lat ops i j d → IsNearPairBy rule lat ops i' j' d'
pair_along rule lat ops i i' j j' d d' i_is j_is d_is pair = grind arith

-- one edge more
module _ (rule : MemoryRule) (lat : Latencies) (ops : List Op) (graph graph' : Graph) (i j d : ℕ) (is : IsPartialGraph rule lat ops graph j)
    (pair : IsNearPairBy rule lat ops i j d) (more : HasOneMore graph graph' i j d) where
  earlier_there : (x : ℕ) → x < graph.start j → x < graph.count
  earlier_there x before = let top : graph.start j ≤ graph.count = is.top in omega arith

  last_place : (x : ℕ) → x < graph'.count → graph.count ≤ x → x ≡ graph.count
  last_place x there after = let size : graph'.count ≡ graph.count + 1 = more.count in omega arith

  head_more : (k : ℕ) → k < graph.ops → IsLast (λ x. graph'.from x ≡ k) (graph.count + 1) (graph'.head k)
  head_more k below = grind (arith, last_before, last_here, last_same)

  previous_more : (x : ℕ) → x < graph'.count → IsLast (λ y. graph'.from y ≡ graph'.from x) x (graph'.previous x)
  previous_more x there = grind (arith, last_place, last_same)

  pub partial_more : IsPartialGraph rule lat ops graph' j
  partial_more = record {
    size = more.ops ∙ is.size;
    rises = grind arith;
    top =
        grind arith;
    into = λ b x below low high.
        let rise = is.rises (b + 1) j (omega arith) (omega arith) in
        let there : x < graph.count = earlier_there x (omega (arith, more.start (b + 1))) in
        more.to x there ∙ is.into b x below (omega (arith, more.start b)) (omega (arith, more.start (b + 1)));
    into_last = grind (arith, last_place);
    to_there = grind (arith, earlier_there);
    sound = λ x there.
        by_lt x graph.count
        (grind (arith, pair_along))
        (grind (arith, last_place, pair_along));
    heads = grind (arith, head_more);
    previous_edges = previous_more;
    all = λ a b e below delays near.
        let found = is.all a b e below delays near in
        let there = earlier_there found.0 found.1 in (
          found.0,
          omega (arith, found.1, more.start j),
          more.to found.0 there ∙ found.2,
          more.from found.0 there ∙ found.3,
          omega (arith, found.4, more.delay found.0 there),
        );
  }

  edges_stay : (a e : ℕ) → HasEdge graph j a e → HasEdge graph' j a e
  edges_stay a e edge = grind arith

  pub grows_by_one : Grows rule lat ops graph graph' j
  grows_by_one = record { partial = partial_more; keeps = edges_stay }

  pub has_new : HasEdge graph' j i d
  has_new = grind arith

pub grows_then : (rule : MemoryRule) (lat : Latencies) (ops : List Op) (a b c : Graph) (j : ℕ) → Grows rule lat ops a b j → Grows rule lat ops b c j
    → Grows rule lat ops a c j
grows_then rule lat ops a b c j first second = grind arith

-- the edges into j are all there, and those into the next operation begin behind them
module _ (rule : MemoryRule) (lat : Latencies) (ops : List Op) (graph : Graph) (j : ℕ) (is : IsPartialGraph rule lat ops graph j)
    (near : (i d : ℕ) → IsDelayPairWhere (counts_by rule ops) lat ops i j d → IsNearBy rule lat ops i j d → HasEdge graph j i d)
    (start' : ℕ → ℕ) (starts : (b : ℕ) → b ≤ j → start' b ≡ graph.start b) (end : start' (j + 1) ≡ graph.count) where
  below_end : (b : ℕ) → b ≤ j → graph.start b ≤ graph.count
  below_end b most = grind arith

  rises_more : (a b : ℕ) → a ≤ b → b ≤ j + 1 → start' a ≤ start' b
  rises_more a b order most =
      by_eq b (j + 1)
      (λ at_end.
      grind (arith, at_end, below_end))
      (grind arith)

  to_there_more : (x : ℕ) → x < start' (j + 1) → (graph.to x < j + 1) × (start' (graph.to x) ≤ x)
      × (x < start' (graph.to x + 1))
  to_there_more x there = grind arith

  all_more : (i b d : ℕ) → b < j + 1 → IsDelayPairWhere (counts_by rule ops) lat ops i b d → IsNearBy rule lat ops i b d → (x : ℕ) × (x < start' (j + 1))
      × (graph.to x ≡ b) × (graph.from x ≡ i) × (d ≤ graph.delay x)
  all_more i b d below pair is_near =
      by_eq b j
      (λ same.
      let edge : HasEdge graph j i d = near i d (subst (λ k. IsDelayPairWhere (counts_by rule ops) lat ops i k d) same pair)
      (subst (λ k. IsNearBy rule lat ops i k d) same is_near) in
      grind arith)
      (λ apart.
      let old = is.all i b d (omega arith) pair is_near in
      grind arith)

  pub closed : IsPartialGraph rule lat ops (record graph { start = start' }) (j + 1)
  closed = grind (arith, all_more, rises_more, to_there_more)

module _ (rule : MemoryRule) (lat : Latencies) (ops : List Op) (graph : Graph)
    (is : IsPartialGraph rule lat ops graph (length ops)) where
  none_behind : (x : ℕ) → graph.start (length ops) ≤ x → x < graph.count → ⊥
  none_behind x after there =
      let low : graph.to x < length ops = (is.sound x there).within in
      let at : graph.to x ≡ length ops = is.into_last x after there in
      absurd (omega arith)

  at_end : graph.start (length ops) ≡ graph.count
  at_end =
      let top : graph.start (length ops) ≤ graph.count = is.top in
      by_lt (graph.start (length ops)) graph.count
      (λ less. absurd (none_behind (graph.start (length ops)) (omega arith) less))
      (λ more. omega arith)

  is_graph : IsGraph graph
  is_graph = record {
    rises = λ i j order most. is.rises i j order (subst (λ n. j ≤ n) is.size most);
    last = ap graph.start is.size ∙ at_end;
    into = λ j x below. is.into j x (subst (λ n. j < n) is.size below);
    to_there = λ x there.
        let h = is.to_there x (subst (λ n. x < n) (sym at_end) there) in
        (subst (λ n. graph.to x < n) (sym is.size) h.0, h.1, h.2);
    earlier = λ x there. (is.sound x there).order;
    delays = λ x there.
        let pair : IsNearPairBy rule lat ops (graph.from x) (graph.to x) (graph.delay x) = is.sound x there in
        let counts = counts_by rule ops (graph.from x) (graph.to x) in (
          delay_at_least_where counts lat (op_at ops (graph.from x)) (op_at ops (graph.to x)) (graph.delay x) pair.delay,
          short_delay_where counts lat (op_at ops (graph.from x)) (op_at ops (graph.to x)) (graph.delay x) pair.delay,
        );
    heads = is.heads;
    previous_edges = is.previous_edges;
  }

  pair_at : (x : ℕ) → x < graph.count
      → IsDelayPairWhere (counts_by rule ops) lat ops (graph.from x) (graph.to x) (graph.delay x)
  pair_at x there = let pair = is.sound x there in
      record { order = pair.order; within = pair.within; delay = pair.delay }

  near_kept : (i j d : ℕ) → IsDelayPairWhere (counts_by rule ops) lat ops i j d → IsNearBy rule lat ops i j d
      → LeadsTo graph i j d
  near_kept i j d pair near =
      let h = is.all i j d pair.within pair near in
      (h.0, subst (λ n. h.0 < n) at_end h.1, h.2, h.3, h.4)

  -- all operations have their edges
  pub kept_at_end : IsGraphOf rule lat ops graph
  kept_at_end = record {
    is_graph = is_graph;
    size = is.size;
    sound = pair_at;
    near = λ x there. (is.sound x there).near;
    all = near_kept;
  }
