use Rattle.iloc_sched.proofs.Common.{◌≡◌, ℕ, ◌<◌, List, length, get_or, take, sym, refl, ap, ◌∙◌, subst, ap₂, arith, take_all, get_or_default, take_more, Op, Nop, op_at, kind, Latencies, in_at, by_address, AreSources, CoversSources, delay_after, AddsFrom, graph_of}
use Rattle.iloc_sched.proofs.KeptEdges.BySources.{source_pair, source_more}
use Rattle.iloc_sched.proofs.edges.Edges.add_sources.Goals as goal

pub loop-i-init : goal.loop-i-init
loop-i-init c = record {
  grows = record { partial = c.requires.partial; keeps = λ i d edge. edge };
  covers = λ i none. absurd none;
  count = omega arith;
  frame = record {
    heads = refl;
    starts = refl;
    capacity = record { starts = refl; heads = refl; edges = refl };
  };
}

-- each source is an earlier operation
earlier : (lat : Latencies) (ops : List Op) (j : ℕ) (sources : List ℕ) (k : ℕ) → AreSources (by_address ops) ops j sources
    → j < length ops → k < length sources → get_or sources k 0 < j
earlier lat ops j sources k are there below =
    (source_pair lat ops j sources are there (get_or sources k 0) (in_at sources k 0 below)).order

pub bounds-next-i : goal.bounds-next-i
bounds-next-i c =
    let before = earlier c.args.next.now.latencies.now c.args.next.now.ops.now c.args.next.now.j c.args.sources.now c.loop-i.i-index
    c.requires.sources c.requires.next.there (omega arith) in
    omega (arith, c.requires.next.there)

pub add-requires-clause-there : goal.add-requires-clause-there
add-requires-clause-there c =
    let before = earlier c.args.next.now.latencies.now c.args.next.now.ops.now c.args.next.now.j c.args.sources.now c.loop-i.i-index
    c.requires.sources c.requires.next.there (omega arith) in
    let size = c.loop-i.invariant.grows.partial.size in
    omega (arith, c.requires.next.there)

pub loop-i-preserved : goal.loop-i-preserved
loop-i-preserved c =
    let lat = c.args.next.now.latencies.now in
    let ops = c.args.next.now.ops.now in
    let xs = c.args.sources.now in
    let k : ℕ = c.loop-i.i-index in
    let i : ℕ = get_or xs k 0 in
    let below : k < length xs = omega arith in
    let before : i < c.args.next.now.j = earlier lat ops c.args.next.now.j xs k c.requires.sources c.requires.next.there below in
    let there : i < length ops = omega (arith, c.requires.next.there) in
    let delay : c.delay_after.result ≡ delay_after lat (kind (op_at ops i)) (kind (op_at ops c.args.next.now.j)) =
    c.delay_after.ensures ∙ ap₂ (delay_after lat) (c.of-first.ensures ∙ ap kind (get_or_default ops i _ Nop there)) c.requires.next.kind_is in
    let more = source_more lat ops c.args.next.now.j xs c.requires.sources c.requires.next.there (take k xs) i (graph_of c.args.self.now)
    (graph_of c.loop-i.self) (graph_of c.add.new.self) (in_at xs k 0 below) c.loop-i.invariant.grows
    c.loop-i.invariant.covers
    (subst (AddsFrom (λ m. m ≡ i) (graph_of c.loop-i.self) (graph_of c.add.new.self) c.args.next.now.j) delay c.add.ensures.adds) in
    record {
      grows = more.0;
      covers = subst (CoversSources lat ops (graph_of c.add.new.self) c.args.next.now.j) (sym (take_more xs k 0 below)) more.1;
      count = omega (arith, c.add.ensures.count);
      frame = record {
        heads = omega arith;
        starts = cc;
        capacity = record { starts = omega arith; heads = omega arith; edges = omega arith };
      };
    }

pub returns-clause-covers : goal.returns-clause-covers
returns-clause-covers c =
    subst (CoversSources c.args.next.now.latencies.now c.args.next.now.ops.now (graph_of c.loop-i.self) c.args.next.now.j)
    (take_all c.loop-i.i-index c.args.sources.now (omega arith)) c.loop-i.invariant.covers
