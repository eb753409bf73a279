use Rattle.iloc_sched.proofs.Common.{◌≡◌, ℕ, ◌-◌, length, subst, arith, get_or_read, is_priority, priority_most_where, priority_where, counts_by, ArePrioritiesFrom, AreRaised, graph_of}
use Rattle.iloc_sched.proofs.PriorityValues.Found.{read_edge, raise_read, none_raised, priorities_found}
use Rattle.iloc_sched.proofs.ranking.priority.fill_chains.Goals as goal

pub loop-x-init : goal.loop-x-init
loop-x-init c =
    let t = c.args.tables.now in
    let counts = counts_by t.rule t.ops.items in
    let prio : ℕ → ℕ = priority_where counts t.latencies t.ops.items in
    rw (c.edge_count-x.ensures) (subst (λ n. AreRaised t.latencies t.ops.items (graph_of t.edges) prio prio
    c.copy_latencies.new.found.items n (length t.edges.edges.items)) c.requires.graph.size
    (none_raised counts t.latencies t.ops.items (graph_of t.edges) c.requires.graph prio prio
    (is_priority counts t.latencies t.ops.items) c.copy_latencies.new.found.items c.in_ok-copy_latencies.ensures))

pub overflow_add-through : goal.overflow_add-through
overflow_add-through c =
    let t = c.args.tables.now in
    let edge = c.get-edge.result in
    let known = read_edge t c.requires.graph.is_graph c.requires.graph.size (c.loop-x.x - 1) edge (omega arith) c.get-edge.ensures in
    let size : length c.loop-x.found.items ≡ length t.ops.items = c.loop-x.invariant.size in
    let read = get_or_read c.loop-x.found.items edge.to c.index.result.now (omega arith) c.index.ensures 0 in
    let upper = c.loop-x.invariant.upper edge.to (omega arith) (omega arith) in
    omega (arith, priority_most_where (counts_by t.rule t.ops.items) t.latencies t.ops.items edge.to (omega arith))

pub loop-x-preserved : goal.loop-x-preserved
loop-x-preserved c =
    let t = c.args.tables.now in
    let counts = counts_by t.rule t.ops.items in
    let prio : ℕ → ℕ = priority_where counts t.latencies t.ops.items in
    let known = read_edge t c.requires.graph.is_graph c.requires.graph.size (c.loop-x.x - 1) c.get-edge.result (omega arith) c.get-edge.ensures in
    raise_read t c.requires prio prio (is_priority counts t.latencies t.ops.items) c.loop-x.found.items (length t.ops.items)
    (c.loop-x.x - 1) c.loop-x.x c.get-edge.result c.index-in-loop-x.result.now c.index.result.now c.max.result
    c.loop-x.invariant (omega arith) (omega arith) c.get-edge.ensures (omega arith) c.index.ensures
    c.index-in-loop-x.ensures c.max.ensures

pub returns : goal.returns
returns c =
    let t = c.args.tables.now in
    let graph = graph_of t.edges in
    let done : c.loop-x.x ≡ 0 = omega arith in
    priorities_found (counts_by t.rule t.ops.items) t.latencies t.ops.items graph c.requires.graph c.loop-x.found.items
    (subst (ArePrioritiesFrom (counts_by t.rule t.ops.items) t.latencies t.ops.items graph c.loop-x.found.items) done c.loop-x.invariant)
