use Rattle.iloc_sched.proofs.Common.{◌≡◌, ℕ, ◌+◌, length, get_or, ap, ◌∙◌, arith, Vec, Book, CoversUses, graph_of}
use Rattle.iloc_sched.proofs.KeptEdges.PartialGraphs.{closed}
use Rattle.iloc_sched.proofs.KeptEdges.NearPairs.{near_is_covered}
use Rattle.iloc_sched.proofs.KeptEdges.AddedEdges.{use_covered, starts_pushed}
use Rattle.iloc_sched.proofs.edges.Edges.add_all.Goals as goal

pub returns-clause-partial : goal.returns-clause-partial
returns-clause-partial c =
    let lat = c.args.next.now.latencies.now in
    let ops = c.args.next.now.ops.now in
    let j : ℕ = c.args.next.now.j in
    let graph = graph_of c.add_memory.new.self in
    let grows = c.add_memory.ensures.grows in
    let uses : CoversUses lat ops graph j = λ r held. use_covered Book lat ops (graph_of c.add_uses.new.self) graph j r grows
    (c.add_uses.ensures.covers r held) in
    let same_starts : c.add_memory.new.self.starts.items ≡ c.args.self.now.starts.items =
    ap (λ (v : Vec ℕ). v.items) (c.add_memory.ensures.frame.starts ∙ c.add_uses.ensures.frame.starts) in
    let size : length c.add_memory.new.self.starts.items ≡ j + 1 = ap (length {A = ℕ}) same_starts
    ∙ c.requires.starts in
    let starts = starts_pushed c.add_memory.new.self.starts.items c.push_reserved.new.self.items c.len.result j
    c.push_reserved.ensures.items size in
    let end : c.len.result ≡ length c.add_memory.new.self.edges.items = omega arith in
    closed Book lat ops graph j grows.partial (near_is_covered lat ops graph j uses c.add_memory.ensures.covers)
    (λ k. get_or c.push_reserved.new.self.items k 0) starts.0 (starts.1 ∙ end)

pub add_uses-requires-clause-partial : goal.add_uses-requires-clause-partial
add_uses-requires-clause-partial c = (Book, c.requires.partial)

pub add_memory-requires-clause-partial : goal.add_memory-requires-clause-partial
add_memory-requires-clause-partial c = (c.add_uses.ensures.grows Book c.requires.partial).partial
