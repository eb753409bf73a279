-- The operations from which kept edges lead to another, in order, are the near ones.
use Rattle.iloc_graph.proofs.Common.{◌≡◌, ℕ, ◌+◌, ◌<◌, ◌≤◌, true, List, map, length, slice_index, All, Contains, Any, subst, arith, AllPairs-from_increasing, range_with_len, Op, op_at}
use Rattle.iloc_graph.proofs.Common.{Latencies, contains_from, from_filter, from_map, from_range, in_at, in_filter, in_from, in_map, in_range_from, rises_range, rises_same, delays_where}
use Rattle.iloc_graph.proofs.Common.{counts_by, In, MemoryRule, IsNearPairBy, Edge, is_near, near_to, IsInOrder}
use Rattle.iloc_rules.proofs.Basics.Ordered.{ordered_filter}
use Rattle.iloc_graph.proofs.Lists.{rises_from}
use Rattle.iloc_graph.proofs.Waiting.{delayed, near_by, near_under, near_is}

module _ (rule : MemoryRule) (lat : Latencies) (ops : List Op) (j : ℕ) (there : j < length ops) (edges : List Edge)
    (each : All (λ (e : Edge). (e.to ≡ j) × IsNearPairBy rule lat ops e.from j e.delay) edges)
    (all : (i d : ℕ) → IsNearPairBy rule lat ops i j d → Any (λ (e : Edge). (e.from ≡ i) × (d ≤ e.delay)) edges) where
  abbrev froms : List ℕ
  froms = map (λ (e : Edge). e.from) edges

  nearest_from : (i : ℕ) → Contains froms i → (i < j) × (is_near rule ops j i ≡ true)
  nearest_from i held =
      let found = from_map (λ (e : Edge). e.from) edges i (in_from froms i held) in
      let at = contains_from edges found.0 found.1 in
      let near : IsNearPairBy rule lat ops found.0.from j found.0.delay =
      subst (λ (e : Edge). IsNearPairBy rule lat ops e.from j e.delay) at.2 (each at.0 found.0 at.1).1 in
      subst (λ k. (k < j) × (is_near rule ops j k ≡ true)) found.2
      (near.order, near_is rule lat ops found.0.from j found.0.delay (near_under rule lat ops found.0.from j found.0.delay near.near))

  nearest_into : (i : ℕ) → i < j → is_near rule ops j i ≡ true → In froms i
  nearest_into i before is =
      let delay = delayed rule lat ops i j is in
      let near : IsNearPairBy rule lat ops i j delay.0 = record {
        order = before;
        within = there;
        delay = contains_from (delays_where (counts_by rule ops i j) lat (op_at ops i) (op_at ops j)) delay.0 delay.1;
        near = near_by rule lat ops i j delay.0 delay.2;
      } in
      let found = all i delay.0 near in
      subst (In froms) found.4.0
      (in_map (λ (e : Edge). e.from) edges found.1 (in_from edges found.1 (found.0, found.2, found.3)))

  pub sources_are : (sorted : List ℕ) → IsInOrder froms sorted → sorted ≡ near_to rule ops j
  sources_are sorted order =
      rises_same sorted (near_to rule ops j) (rises_from sorted (AllPairs-from_increasing sorted order.rises))
      (ordered_filter (λ (x y : ℕ). x < y) (is_near rule ops j) (range_with_len 0 j) (rises_range 0 j))
      (λ i held.
      let h = nearest_from i (order.from i (contains_from sorted i held)) in
      let before : i < j = h.0 in
      in_filter (is_near rule ops j) (range_with_len 0 j) i (in_range_from 0 j i (omega arith) (omega arith)) h.1)
      (λ i held.
      let h = from_filter (is_near rule ops j) (range_with_len 0 j) i held in
      let before : (0 ≤ i) × (i < 0 + j) = from_range 0 j i h.0 in
      in_from sorted i (order.all i (contains_from froms i (nearest_into i (omega arith) h.1))))

-- each is an earlier one
pub source_earlier : (rule : MemoryRule) (ops : List Op) (n : ℕ) (sorted : List ℕ) → sorted ≡ near_to rule ops n → (k : ℕ) → k < length sorted
    → slice_index sorted k < n
source_earlier rule ops n sorted are k within =
    let there : In (near_to rule ops n) (slice_index sorted k) =
    subst (λ xs. In xs (slice_index sorted k)) are (in_at sorted k 0 within) in
    let h = from_filter (is_near rule ops n) (range_with_len 0 n) (slice_index sorted k) there in
    let before : (0 ≤ slice_index sorted k) × (slice_index sorted k < 0 + n) =
    from_range 0 n (slice_index sorted k) h.0 in
    omega arith
