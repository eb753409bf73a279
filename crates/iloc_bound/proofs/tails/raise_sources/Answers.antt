use Rattle.iloc_bound.proofs.Common.{List, get_or, None, sym, refl, subst, arith, get_or_read, Edge}
use Rattle.iloc_sched.specs.Graph.Near.{IsNearPairBy}
use Rattle.iloc_bound.proofs.TailsFound.{all_raised, kept_more, raised, through_small}
use Rattle.iloc_bound.proofs.tails.raise_sources.Goals as goal

abbrev none : Edge
none = record { from = 0; to = 0; delay = 0; previous = None }

pub overflow_add-through : goal.overflow_add-through
overflow_add-through c =
    let g = c.args.graph.now in
    let edges : List Edge = c.edges_into-edges.result.now in
    let k = c.loop-edge.edge-index in
    let near = subst (λ rule. IsNearPairBy rule g.latencies g.ops (get_or edges k none).from c.args.j (get_or edges k none).delay) c.requires.book
    (c.edges_into-edges.ensures.near k none (omega arith)).1 in
    let tailed = c.loop-edge.invariant.tailed in
    let read = get_or_read c.loop-edge.found.items c.args.j c.index.result.now (omega (arith, tailed.size, c.requires.there))
    c.index.ensures 0 in
    let small = through_small g.latencies g.ops c.loop-edge.found.items c.args.j tailed (get_or edges k none) near in
    omega (arith, c.requires.few)

pub loop-edge-preserved : goal.loop-edge-preserved
loop-edge-preserved c =
    let g = c.args.graph.now in
    let edges : List Edge = c.edges_into-edges.result.now in
    let k = c.loop-edge.edge-index in
    let near = subst (λ rule. IsNearPairBy rule g.latencies g.ops (get_or edges k none).from c.args.j (get_or edges k none).delay) c.requires.book
    (c.edges_into-edges.ensures.near k none (omega arith)).1 in
    let before = c.loop-edge.invariant in
    record {
      tailed = raised g.latencies g.ops c.loop-edge.found.items c.args.j before.tailed (get_or edges k none) near
          c.index-in-loop-edge.result.now c.index.result.now c.max.result c.index-in-loop-edge.ensures c.index.ensures
          c.max.ensures;
      kept = kept_more g.latencies g.ops c.loop-edge.found.items c.args.j before.tailed (get_or edges k none) near
          c.index-in-loop-edge.result.now c.index.result.now c.max.result c.index-in-loop-edge.ensures c.index.ensures
          c.max.ensures edges k none refl (omega arith) before.kept;
    }

pub returns : goal.returns
returns c =
    let g = c.args.graph.now in
    let edges : List Edge = c.edges_into-edges.result.now in
    all_raised g.latencies g.ops c.loop-edge.found.items c.args.j edges c.loop-edge.invariant.tailed
    (λ i d near. c.edges_into-edges.ensures.all i d
    (subst (λ rule. IsNearPairBy rule g.latencies g.ops i c.args.j d) (sym c.requires.book) near)) (λ k other within. c.loop-edge.invariant.kept k other (omega arith))
