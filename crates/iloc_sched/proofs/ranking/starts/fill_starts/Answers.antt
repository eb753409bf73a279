use Rattle.iloc_sched.proofs.Common.{◌≡◌, ℕ, ◌<◌, List, length, subst, arith, get_or_read, is_start_where, start_most_where, counts_by, start_where, AreStartsBefore, graph_of, Edge}
use Rattle.iloc_sched.proofs.PriorityValues.Chains.{raise_to}
use Rattle.iloc_sched.proofs.PriorityValues.Found.{read_edge, starts_none, starts_found}
use Rattle.iloc_sched.proofs.ranking.starts.fill_starts.Goals as goal

pub loop-x-init : goal.loop-x-init
loop-x-init c =
    let t = c.args.tables.now in
    starts_none (counts_by t.rule t.ops.items) t.latencies t.ops.items (graph_of t.edges) c.requires.graph c.fill_zeros.new.found.items
    (rw c.op_count.ensures at c.in_ok-fill_zeros.ensures)

pub overflow_add-arrival : goal.overflow_add-arrival
overflow_add-arrival c =
    let t = c.args.tables.now in
    let edge = c.get-edge.result in
    let known = read_edge t c.requires.graph.is_graph c.requires.graph.size c.loop-x.x edge (omega arith) c.get-edge.ensures in
    let size : length c.loop-x.found.items ≡ length t.ops.items = c.loop-x.invariant.size in
    let read = get_or_read c.loop-x.found.items edge.from c.index.result.now (omega arith) c.index.ensures 0 in
    let upper = c.loop-x.invariant.upper edge.from (omega arith) (omega arith) in
    omega (arith, start_most_where (counts_by t.rule t.ops.items) t.latencies t.ops.items edge.from (omega arith))

pub loop-x-preserved : goal.loop-x-preserved
loop-x-preserved c =
    let t = c.args.tables.now in
    let edge = c.get-edge.result in
    let found : List ℕ = c.loop-x.found.items in
    let known = read_edge t c.requires.graph.is_graph c.requires.graph.size c.loop-x.x edge (omega arith) c.get-edge.ensures in
    let size : length found ≡ length t.ops.items = c.loop-x.invariant.size in
    let first = get_or_read found edge.from c.index.result.now (omega arith) c.index.ensures 0 in
    let second = get_or_read found edge.to c.index-in-loop-x.result.now (omega arith) c.index-in-loop-x.ensures 0 in
    let value : ℕ → ℕ = start_where (counts_by t.rule t.ops.items) t.latencies t.ops.items in
    rw (c.max.ensures, second, first, c.get-edge.ensures) (raise_to (counts_by t.rule t.ops.items) t.latencies t.ops.items (graph_of t.edges)
    c.requires.graph (λ k. 0) value value found (length t.ops.items) c.loop-x.x (omega arith)
    (is_start_where (counts_by t.rule t.ops.items) t.latencies t.ops.items) c.loop-x.invariant
    (subst (λ (e : Edge). e.to < length t.ops.items) c.get-edge.ensures known.1))

pub returns : goal.returns
returns c =
    let t = c.args.tables.now in
    let graph = graph_of t.edges in
    let all : c.loop-x.x ≡ length t.edges.edges.items = omega arith in
    starts_found (counts_by t.rule t.ops.items) t.latencies t.ops.items graph c.requires.graph c.loop-x.found.items
    (subst (AreStartsBefore (counts_by t.rule t.ops.items) t.latencies t.ops.items graph c.loop-x.found.items) all c.loop-x.invariant)
