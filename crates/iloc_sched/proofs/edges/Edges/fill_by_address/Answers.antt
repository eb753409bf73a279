use Rattle.iloc_sched.proofs.Common.{◌≡◌, ◌<◌, length, sym, refl, ap, ◌∙◌, subst, arith, get_or_default, defined, used, Nop, kind, by_address, Address, AreSources, IsPartialGraph, graph_of}
use Rattle.iloc_sched.proofs.KeptEdges.PartialGraphs.{kept_at_end}
use Rattle.iloc_sched.proofs.edges.Edges.fill_by_address.Goals as goal

pub loop-j-init : goal.loop-j-init
loop-j-init c =
    let partial = c.in_ok-clear.ensures.partial Address c.args.latencies.now c.args.ops.now refl in
    record {
      partial = partial;
      lasts = c.clear-2.ensures.lasts c.args.ops.now;
      known = c.clear-3.ensures.known c.args.ops.now;
      starts = c.in_ok-clear.ensures.starts;
      capacity = let capacity = c.in_ok-clear.ensures.capacity in record {
        starts = omega (arith, partial.size, capacity.starts);
        heads = omega (arith, partial.size, capacity.heads);
        edges = omega (arith, partial.size, capacity.edges);
      };
      count = omega (arith, c.in_ok-clear.ensures.edges, c.clear-3.ensures.waiting);
    }

pub add_by_address-requires-clause-next : goal.add_by_address-requires-clause-next
add_by_address-requires-clause-next c =
    let there : c.loop-j.j < length c.args.ops.now = omega arith in
    let here = get_or_default c.args.ops.now c.loop-j.j _ Nop there in
    record {
      renamed = c.requires.renamed;
      few = c.requires.few;
      there = there;
      own = c.requires.own;
      known = c.loop-j.invariant.lasts;
      kind_is = c.of-kind.ensures ∙ ap kind here;
      uses_are = c.of-registers.ensures.uses ∙ ap used here;
    }

pub add_by_address-requires-clause-sources : goal.add_by_address-requires-clause-sources
add_by_address-requires-clause-sources c =
    let ops = c.args.ops.now in
    let there : c.loop-j.j < length ops = omega arith in
    subst (AreSources (by_address ops) ops c.loop-j.j) (sym c.deref.ensures.value)
    (c.in_ok-take.ensures.sources ops (sym (get_or_default ops c.loop-j.j _ Nop there)) c.loop-j.invariant.known)

pub loop-j-preserved : goal.loop-j-preserved
loop-j-preserved c =
    let ops = c.args.ops.now in
    let there : c.loop-j.j < length ops = omega arith in
    record {
      partial = c.add_by_address.ensures.partial;
      lasts = c.in_ok-note.ensures.lasts ops (c.of-kind.ensures ∙ ap kind (get_or_default ops c.loop-j.j _ Nop there))
          (c.of-registers.ensures.defines ∙ ap defined (get_or_default ops c.loop-j.j _ Nop there)) c.loop-j.invariant.lasts;
      known = c.in_ok-take.ensures.known ops (sym (get_or_default ops c.loop-j.j _ Nop there)) c.loop-j.invariant.known;
      starts = omega (arith, c.add_by_address.ensures.starts);
      capacity = let capacity = c.loop-j.invariant.capacity in let kept = c.add_by_address.ensures.capacity in record {
        starts = omega (arith, capacity.starts, kept.starts, c.add_by_address.ensures.heads);
        heads = omega (arith, capacity.heads, kept.heads, c.add_by_address.ensures.heads);
        edges = omega (arith, capacity.edges, kept.edges, c.add_by_address.ensures.heads);
      };
      count = omega (arith, c.add_by_address.ensures.count, c.in_ok-take.ensures.few, c.loop-j.invariant.count);
    }

pub returns : goal.returns
returns c =
    let at_end : c.loop-j.j ≡ length c.args.ops.now = omega arith in
    kept_at_end Address c.args.latencies.now c.args.ops.now (graph_of c.loop-j.self)
    (subst (λ n. IsPartialGraph Address c.args.latencies.now c.args.ops.now (graph_of c.loop-j.self) n) at_end
    c.loop-j.invariant.partial)
