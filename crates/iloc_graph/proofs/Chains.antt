-- A longest chain of delays runs along nearest pairs: where it went by way of an operation between, that would come first.
use Rattle.iloc_graph.proofs.Common.{◌≡◌, ℕ, ◌+◌, ◌<◌, ◌≤◌, List, [], ◌∷◌, Contains, inl, inr, arith, Op, op_at, Latencies, fold_max_each, in_from, delays_where, counts_by, MemoryRule}
use Rattle.iloc_graph.proofs.Common.{Continues, IsChainFrom, IsNext, chain_by, ChainsRunAlongNearestPairs, RunsAlong, longest_delay, nearest_pairs}
use Rattle.iloc_explain.proofs.ChainLengths.{is_chain}
use Rattle.iloc_graph.proofs.Waiting.{drawn_or_by_way, in_nearest, nearest_is_delay}

module _ (rule : MemoryRule) (lat : Latencies) (ops : List Op) where
  -- what continues a chain first does so by a nearest pair
  next_near : (i j : ℕ) → IsNext rule lat ops i j
      → (d : ℕ) × Contains (nearest_pairs rule lat ops) (record { first = i; second = j; delay = d })
      × (chain_by rule lat ops i ≡ d + chain_by rule lat ops j)
  next_near i j next =
      let goes : Continues rule lat ops i j = next.continues in
      let sum : chain_by rule lat ops i ≡ goes.delay + chain_by rule lat ops j = goes.sum in
      elim (drawn_or_by_way rule lat ops i j goes.delay goes.pair) [
        | inl near ↦
            let d : ℕ = longest_delay (counts_by rule ops i j) lat (op_at ops i) (op_at ops j) in
            let there : Contains (nearest_pairs rule lat ops) (record { first = i; second = j; delay = d }) =
            in_nearest rule lat ops i j goes.pair.within near in
            let most : goes.delay ≤ d =
            fold_max_each 0 (delays_where (counts_by rule ops i j) lat (op_at ops i) (op_at ops j)) goes.delay
            (in_from (delays_where (counts_by rule ops i j) lat (op_at ops i) (op_at ops j)) goes.delay goes.pair.delay) in
            let over : d + chain_by rule lat ops j ≤ chain_by rule lat ops i =
            (is_chain rule lat ops).pairs i j d (nearest_is_delay rule lat ops i j d there) in
            (d, there, omega arith)
        | inr by ↦
            let before : by.way < j = by.second.order in
            let enough : goes.delay ≤ by.first_delay + by.second_delay = by.enough in
            let to : by.first_delay + chain_by rule lat ops by.way ≤ chain_by rule lat ops i =
            (is_chain rule lat ops).pairs i by.way by.first_delay by.first in
            let from : by.second_delay + chain_by rule lat ops j ≤ chain_by rule lat ops by.way =
            (is_chain rule lat ops).pairs by.way j by.second_delay by.second in
            absurd (next.first by.way before (record { delay = by.first_delay; pair = by.first; sum = omega arith }))
      ]

  runs_along : (i : ℕ) (chain : List ℕ) → IsChainFrom rule lat ops i chain → RunsAlong rule lat ops chain
  runs_along i [] is = tt
  runs_along i (x ∷ []) is = tt
  runs_along i (x ∷ y ∷ chain) is = grind (arith, next_near, runs_along y (y ∷ chain) is.2)

pub chains_run_along : ChainsRunAlongNearestPairs
chains_run_along rule lat [] chain is = rw is tt
chains_run_along rule lat (op ∷ ops) chain is = runs_along rule lat (op ∷ ops) is.0 chain is.2
