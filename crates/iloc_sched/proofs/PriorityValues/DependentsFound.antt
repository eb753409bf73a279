-- Sets that are joined along the kept edges, the last first, have just the operations that depend on each; for
-- `Heuristic::Descendants`.
use Rattle.iloc_sched.proofs.Common.{◌≡◌, ℕ, zero, suc, ◌+◌, ◌<◌, ◌≤◌, min, true, ◌≢◌, ◌⊎◌, List, length, get_or, set, replicate, sym, ap, ◌∙◌, subst, inl, inr, arith, length-set, get_or-set_other, get_or-set_same, cases_lt, get_or-replicate, length-replicate, bit_at-lt, bit_at-zero, bit_at_or, bit_at, Op, Latencies, Counts, IsDelayPairWhere, depends_on_where, Graph, IsGraphWhere, LeadsTo, AreMarked, IsMarked, Reaches}
use Rattle.std.specs.Int.Bits.{bit_or}
use Rattle.iloc_sched.proofs.PriorityValues.Dependents.{by_pair, first_pair, later}
use Rattle.iloc_sched.proofs.Basics.Cases.{by_eq}

in_left_set : (a b i : ℕ) → bit_at a i ≡ 1 → bit_at (bit_or a b) i ≡ 1
in_left_set a b i is = grind (arith, bit_at-lt, bit_at_or)

in_right_set : (a b i : ℕ) → bit_at b i ≡ 1 → bit_at (bit_or a b) i ≡ 1
in_right_set a b i is = grind (arith, bit_at-lt, bit_at_or)

from_sets : (a b i : ℕ) → bit_at (bit_or a b) i ≡ 1 → (bit_at a i ≡ 1) ⊎ (bit_at b i ≡ 1)
from_sets a b i is = grind (arith, bit_at-lt, bit_at_or, cases_lt)

module _ (counts : Counts) (lat : Latencies) (ops : List Op) (graph : Graph) (is : IsGraphWhere counts lat ops graph) (base : ℕ) where
  -- an edge leads to an operation before the last of the 64 where it lies before the edges into those after them
  pub early_target : (end x : ℕ) → end ≡ min graph.ops (base + 64) → x < graph.start end
      → (x < graph.count) × (graph.to x < base + 64)
  early_target end x end_is early = grind arith

  -- and all others lead to none of the 64, nor from there to one of them
  pub marked_none : (masks : List ℕ) (end : ℕ) → masks ≡ replicate graph.ops 0 → end ≡ min graph.ops (base + 64)
      → IsMarked counts lat ops graph base masks (graph.start end)
  marked_none masks end are end_is = grind (arith, bit_at-zero, get_or-replicate, later, length-replicate)

  -- what a delay pair leads to is in the set of its source
  pair_marked : (masks : List ℕ) (x i b : ℕ) → IsMarked counts lat ops graph base masks x → x ≤ graph.start (i + 1) → b < 64
      → (n k d : ℕ) → k ≤ i + n → IsDelayPairWhere counts lat ops i k d → Reaches counts lat ops k (base + b)
      → bit_at (get_or masks i 0) b ≡ 1
  pair_marked masks x i b marked after small zero k d few pair reaches = grind arith
  pair_marked masks x i b marked after small (suc n) k d few pair reaches = elim (is.ways i k d pair) [
    | inl edge ↦
        let there : LeadsTo graph i k d = edge in
        grind arith
    | inr by ↦
        pair_marked masks x i b marked after small n by.way by.first_delay (omega arith) by.first
        (inr (by_pair counts lat ops by.way k (base + b) by.second_delay by.second reaches))
  ]

  -- the set of i is whole once all edges out of it are done
  pub marked_from : (masks : List ℕ) (x i b : ℕ) → IsMarked counts lat ops graph base masks x → x ≤ graph.start (i + 1)
      → b < 64 → depends_on_where counts lat ops i (base + b) ≡ true → bit_at (get_or masks i 0) b ≡ 1
  marked_from masks x i b marked after small depends =
      let first = first_pair counts lat ops i (base + b) depends in
      pair_marked masks x i b marked after small first.to first.to first.delay (omega arith) first.pair first.rest

  -- edge x is done
  pub marked_more : (masks masks' : List ℕ) (x from to own : ℕ) → IsMarked counts lat ops graph base masks (x + 1)
      → x < graph.count → from ≡ graph.from x → to ≡ graph.to x
      → ((b : ℕ) → b < 64 → bit_at own b ≡ 1 → to ≡ base + b) → ((b : ℕ) → b < 64 → to ≡ base + b → bit_at own b ≡ 1)
      → masks' ≡ set masks from (bit_or (get_or masks from 0) (bit_or (get_or masks to 0) own))
      → IsMarked counts lat ops graph base masks' x
  marked_more masks masks' x from to own marked below from_is to_is own_only own_all are =
      let place : (graph.to x < graph.ops) × (graph.start (graph.to x) ≤ x) × (x < graph.start (graph.to x + 1)) =
      is.is_graph.to_there x below in
      let size : length masks ≡ length ops = marked.size in
      let there : graph.to x < graph.ops = place.0 in
      let earlier : graph.from x < graph.to x = is.is_graph.earlier x below in
      let late : x < graph.start (graph.to x + 1) = place.2 in
      let value : get_or masks' from 0 ≡ bit_or (get_or masks from 0) (bit_or (get_or masks to 0) own) =
      ap (λ xs. get_or xs from 0) are ∙ get_or-set_same masks from _ 0 (omega arith) in
      let other : (k : ℕ) → k ≢ from → get_or masks' k 0 ≡ get_or masks k 0 =
      (λ k apart. ap (λ xs. get_or xs k 0) are ∙ get_or-set_other masks from k _ 0 apart) in
      let grown : (k b : ℕ) → bit_at (get_or masks k 0) b ≡ 1 → bit_at (get_or masks' k 0) b ≡ 1 =
      grind (arith, in_left_set) in
      let pair : IsDelayPairWhere counts lat ops from to (graph.delay x) =
      subst (λ f. IsDelayPairWhere counts lat ops f to (graph.delay x)) (sym from_is)
      (subst (λ t. IsDelayPairWhere counts lat ops (graph.from x) t (graph.delay x)) (sym to_is) (is.sound x below)) in
      record {
        size = ap length are ∙ length-set masks from _ ∙ size;
        only = λ i b within small one. by_eq i from
            (λ same.
            elim (from_sets (get_or masks from 0) (bit_or (get_or masks to 0) own) b
            (sym (ap (λ m. bit_at m b) value) ∙ ap (λ n. bit_at (get_or masks' n 0) b) (sym same) ∙ one)) [
              | inl old ↦ marked.only i b within small (ap (λ n. bit_at (get_or masks n 0) b) same ∙ old)
              | inr new ↦
                  ap (λ n. depends_on_where counts lat ops n (base + b)) same
                  ∙ by_pair counts lat ops from to (base + b) (graph.delay x) pair
                  (elim (from_sets (get_or masks to 0) own b new) [
                    | inl behind ↦ inr (marked.only to b (omega arith) small behind)
                    | inr itself ↦ inl (own_only b small itself)
                  ])
            ])
            (λ apart. marked.only i b within small (ap (λ m. bit_at m b) (sym (other i apart)) ∙ one));
        over = λ y b after within small reaches. by_eq y x
            (grind (arith, in_left_set, in_right_set, marked_from))
            (λ apart. grown (graph.from y) b (marked.over y b (omega arith) within small reaches));
      }

  -- all edges are done
  pub marked_all : (masks : List ℕ) → IsMarked counts lat ops graph base masks 0 → AreMarked counts lat ops base masks
  marked_all masks marked = grind (arith, marked_from)
