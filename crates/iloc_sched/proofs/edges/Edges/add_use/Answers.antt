use Rattle.iloc_sched.proofs.Common.{◌≡◌, ◌<◌, length, get_or, Some, sym, ◌∙◌, arith, op_at, latency, MemoryRule, CoversUse, Grows, IsPartialGraph, number_at, graph_of}
use Rattle.iloc_sched.proofs.KeptEdges.ListedKinds.{latency_listed}
use Rattle.iloc_sched.proofs.KeptEdges.NearPairs.{definer_there}
use Rattle.iloc_sched.proofs.KeptEdges.AddedEdges.{adds_use}
use Rattle.iloc_sched.proofs.edges.Edges.add_use.Goals as goal

both : (c : goal.After-add) (rule : MemoryRule)
    → IsPartialGraph rule c.args.next.now.latencies.now c.args.next.now.ops.now (graph_of c.args.self.now) c.args.next.now.j
    → Grows rule c.args.next.now.latencies.now c.args.next.now.ops.now (graph_of c.args.self.now)
    (graph_of c.add.new.self) c.args.next.now.j × CoversUse c.args.next.now.latencies.now c.args.next.now.ops.now
    (graph_of c.add.new.self) c.args.next.now.j c.args.register
both c rule partial =
    let ops = c.args.next.now.ops.now in
    let at : number_at c.args.next.now.lasts.now.definers c.args.register.0 ≡ Some c.in-Some.i = sym c.get.ensures
    ∙ c.in-Some.is in
    let earlier : c.in-Some.i < c.args.next.now.j =
    (definer_there c.args.next.now.latencies.now ops c.args.next.now.j c.args.next.now.lasts.now c.requires.next.known c.args.register c.in-Some.i
    at).0 in
    let there : c.in-Some.i < length ops = omega arith in
    let delay = get_or c.args.next.now.own.now c.in-Some.i 0 in
    let long : delay ≡ latency c.args.next.now.latencies.now (op_at ops c.in-Some.i) =
    latency_listed c.args.next.now.latencies.now ops c.args.next.now.own.now c.in-Some.i 0 c.requires.next.own there in
    adds_use c.args.next.now.latencies.now ops c.args.next.now.lasts.now c.args.next.now.j c.requires.next.known c.requires.next.there rule
    (graph_of c.args.self.now) (graph_of c.add.new.self) c.args.register c.in-Some.i delay
    c.requires.next.renamed c.requires.used partial at long c.add.ensures.adds

pub returns-in-Some-clause-grows : goal.returns-in-Some-clause-grows
returns-in-Some-clause-grows c rule partial = (both c rule partial).0

pub returns-in-Some-clause-covers : goal.returns-in-Some-clause-covers
returns-in-Some-clause-covers c = (both c c.requires.partial.0 c.requires.partial.1).1
