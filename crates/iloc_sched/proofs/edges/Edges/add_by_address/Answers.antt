use Rattle.iloc_sched.proofs.Common.{◌≡◌, ℕ, ◌+◌, length, get_or, ap, ◌∙◌, arith, Vec, Address, CoversUses, graph_of}
use Rattle.iloc_sched.proofs.KeptEdges.PartialGraphs.{closed}
use Rattle.iloc_sched.proofs.KeptEdges.BySources.{near_is_source}
use Rattle.iloc_sched.proofs.KeptEdges.AddedEdges.{use_covered, starts_pushed}
use Rattle.iloc_sched.proofs.edges.Edges.add_by_address.Goals as goal

pub add_uses-requires-clause-partial : goal.add_uses-requires-clause-partial
add_uses-requires-clause-partial c = (Address, c.requires.partial)

pub add_sources-requires-clause-partial : goal.add_sources-requires-clause-partial
add_sources-requires-clause-partial c = (c.add_uses.ensures.grows Address c.requires.partial).partial

pub returns-clause-partial : goal.returns-clause-partial
returns-clause-partial c =
    let lat = c.args.next.now.latencies.now in
    let ops = c.args.next.now.ops.now in
    let j : ℕ = c.args.next.now.j in
    let graph = graph_of c.add_sources.new.self in
    let grows = c.add_sources.ensures.grows in
    let uses : CoversUses lat ops graph j = λ r held. use_covered Address lat ops (graph_of c.add_uses.new.self) graph j r grows
    (c.add_uses.ensures.covers r held) in
    let same_starts : c.add_sources.new.self.starts.items ≡ c.args.self.now.starts.items =
    ap (λ (v : Vec ℕ). v.items) (c.add_sources.ensures.frame.starts ∙ c.add_uses.ensures.frame.starts) in
    let size : length c.add_sources.new.self.starts.items ≡ j + 1 = ap (length {A = ℕ}) same_starts
    ∙ c.requires.starts in
    let starts = starts_pushed c.add_sources.new.self.starts.items c.push_reserved.new.self.items c.len.result j
    c.push_reserved.ensures.items size in
    let end : c.len.result ≡ length c.add_sources.new.self.edges.items = omega arith in
    closed Address lat ops graph j grows.partial
    (near_is_source lat ops j c.args.sources.now c.requires.sources graph uses c.add_sources.ensures.covers)
    (λ k. get_or c.push_reserved.new.self.items k 0) starts.0 (starts.1 ∙ end)
