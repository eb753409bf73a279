use Rattle.iloc_optimum.proofs.Common.{◌≡◌, length, get_or, replicate, slice_index, refl, ap, ◌∙◌, subst, arith, length-set, heuristics, Chain, least_of_under, IsCountOf, cycles_of}
use Rattle.iloc_optimum.proofs.Improvements.{best_of_all, best_of_more, best_of_one, count_of_the, counts_more}
use Rattle.iloc_optimum.proofs.optimizer.Optimizer.orders.Goals as goal

pub loop-place-init : goal.loop-place-init
loop-place-init c =
    let g = c.args.graph.now in
    let the = c.in_ok-best.ensures g.rule g.latencies c.args.block.now.ops
    (λ i. record { rule = g.rule; ops = c.requires.graph i; latencies = g.latencies }) in
    record {
      size = refl;
      counts = λ i below.
          let first : 0 ≡ i = omega (arith, below) in
          subst (λ k. IsCountOf g.rule (get_or heuristics k Chain) g.latencies c.args.block.now.ops
          (slice_index (replicate (length heuristics) c.count_of.result) k)) first
          (count_of_the g.rule g.latencies c.args.block.now.ops Chain c.in_ok-best.best the c.count_of.result
          (c.count_of.ensures.value ∙ ap (λ lat. cycles_of lat c.in_ok-best.best) c.latencies.ensures));
      fewest = c.count_of.ensures.value ∙ ap (λ lat. cycles_of lat c.in_ok-best.best) c.latencies.ensures;
      best = best_of_one g.rule g.latencies c.args.block.now.ops _ _ c.in_ok-best.best the;
    }

pub loop-place-preserved : goal.loop-place-preserved
loop-place-preserved c =
    let g = c.args.graph.now in
    let block = c.args.block.now.ops in
    let old = c.loop-place.invariant in
    record {
      size = length-set c.loop-place.cycles c.loop-place.place _ ∙ old.size;
      counts = counts_more g.rule g.latencies block c.loop-place.cycles c.loop-place.place _ _ old.size c.loop-place-test.true old.counts
          c.in_ok-cycles.ensures.counted;
      fewest = c.in_ok-cycles.ensures.fewest;
      best = best_of_more g.rule g.latencies block _ c.loop-place.place _ _ _ c.loop-place-test.true old.best
          c.in_ok-cycles.ensures.shorter;
    }

pub returns : goal.returns
returns c =
    let g = c.args.graph.now in
    let old = c.loop-place.invariant in
    record {
      all = old.size;
      each = λ i below. old.counts i (omega arith);
      best = best_of_all g.rule g.latencies c.args.block.now.ops c.loop-place.place c.loop-place.best c.args.least (omega arith)
          old.best (c.requires.least ∙ ap (least_of_under g.rule g.latencies) c.requires.graph);
    }
