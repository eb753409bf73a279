use Rattle.iloc_sched.proofs.Common.{ℕ, ◌<◌, length, take, sym, subst, arith, take_all, take_more, in_at, In, AddsFrom, graph_of}
use Rattle.iloc_sched.proofs.KeptEdges.AddedEdges.{adds_more}
use Rattle.iloc_sched.proofs.edges.Edges.add_each.Goals as goal

pub add-requires-clause-there : goal.add-requires-clause-there
add-requires-clause-there c =
    let below : c.loop-i.i-index < length c.args.from.now = omega arith in
    omega (arith, c.requires.there _ (in_at c.args.from.now c.loop-i.i-index 0 below))

pub loop-i-preserved : goal.loop-i-preserved
loop-i-preserved c =
    let k : ℕ = c.loop-i.i-index in
    let xs = c.args.from.now in
    let below : k < length xs = omega arith in
    record {
      adds = subst (λ ys. AddsFrom (In ys) (graph_of c.args.self.now) (graph_of c.add.new.self) c.args.to c.args.delay)
          (sym (take_more xs k 0 below))
          (adds_more (take k xs) _ (graph_of c.args.self.now) (graph_of c.loop-i.self) (graph_of c.add.new.self)
          c.args.to c.args.delay c.loop-i.invariant.adds c.add.ensures.adds);
      count = omega (arith, c.add.ensures.count);
      frame = record {
        heads = omega arith;
        starts = cc;
        capacity = record { starts = omega arith; heads = omega arith; edges = omega arith };
      };
    }

pub returns-clause-adds : goal.returns-clause-adds
returns-clause-adds c =
    subst (λ ys. AddsFrom (In ys) (graph_of c.args.self.now) (graph_of c.loop-i.self) c.args.to c.args.delay)
    (take_all c.loop-i.i-index c.args.from.now (omega arith)) c.loop-i.invariant.adds
