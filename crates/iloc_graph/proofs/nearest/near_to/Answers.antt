use Rattle.iloc_graph.proofs.Common.{◌≡◌, ℕ, eqb, List, map, sym, ap, ◌∙◌, subst, take_all, Contains-dedup_nat, Contains-from_dedup, dedup, Edge, IsInOrder}
use Rattle.std.proofs.lemmas.List.Filters.{dedup_is}
use Rattle.iloc_graph.proofs.Sources.{sources_are}
use Rattle.std.specs.List.Sorted.{IsPermutation, IsSorted}
use Rattle.std.specs.Ordering.{nat_cmp}
use Rattle.std.proofs.lemmas.List.Sorted.{Contains-permutation, IsPermutation-sym}
use Rattle.std.proofs.lemmas.Map.Keys.{IsStrictlyIncreasing-dedup}
use Rattle.iloc_graph.proofs.nearest.near_to.Goals as goal

-- What sorting and striking out what is there twice leave of a list.
in_order : (listed sorted kept : List ℕ) → IsPermutation listed sorted → IsSorted nat_cmp sorted
    → kept ≡ dedup eqb sorted → IsInOrder listed kept
in_order listed sorted kept permuted rises is =
    subst (IsInOrder listed) (sym is) (record {
      rises = IsStrictlyIncreasing-dedup sorted rises;
      from = λ i there. Contains-permutation sorted listed i (IsPermutation-sym listed sorted permuted)
          (Contains-from_dedup eqb sorted i there);
      all = λ i there. Contains-dedup_nat sorted i (Contains-permutation listed sorted i permuted there);
    })

pub returns : goal.returns
returns c =
    let edges = c.edges_into-edge-items.result.now in
    let listed : c.loop-edge.found.items ≡ map (λ (e : Edge). e.from) edges =
    c.loop-edge.invariant ∙ ap (map (λ (e : Edge). e.from)) (take_all _ _ c.loop-edge-test.false) in
    sources_are c.args.graph.now.rule c.args.graph.now.latencies c.args.graph.now.ops c.args.j c.requires edges
    c.edges_into-edge-items.ensures.near c.edges_into-edge-items.ensures.all c.dedup.new.self.items
    (subst (λ xs. IsInOrder xs c.dedup.new.self.items) listed
    (in_order _ _ _ c.sort_unstable.ensures.permutation c.sort_unstable.ensures.sorted
    (dedup_is eqb _ _ c.dedup.ensures.filtered)))
