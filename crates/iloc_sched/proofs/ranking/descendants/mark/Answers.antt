use Rattle.iloc_sched.proofs.Common.{◌≡◌, ℕ, ◌+◌, ◌-◌, ◌<◌, min, List, length, set, ap, subst, ap₂, arith, get_or_read, counts_by, IsSound, IsMarked, edge_at, graph_of, Edge, Tables}
use Rattle.std.specs.Int.Bits.{bit_or}
use Rattle.iloc_sched.proofs.PriorityValues.DependentsFound.{early_target, marked_none, marked_more, marked_all}
use Rattle.iloc_sched.proofs.PriorityValues.Found.{read_edge}
use Rattle.iloc_sched.proofs.ranking.descendants.mark.Goals as goal

pub loop-x-init : goal.loop-x-init
loop-x-init c =
    let t = c.args.tables.now in
    rw c.start-x.ensures (marked_none (counts_by t.rule t.ops.items) t.latencies t.ops.items (graph_of t.edges) c.requires.sound.graph c.args.base
    c.args.masks.now.items c.min-end.result c.requires.zeros (rw c.op_count.ensures at c.min-end.ensures))

-- an edge before the first of those into later operations leads to one before them
target : (t : Tables) → IsSound t → (base end start x : ℕ) → end ≡ min (length t.edges.heads.items) (base + 64)
    → start ≡ (graph_of t.edges).start end → x < start
    → (x < length t.edges.edges.items) × ((edge_at t.edges x).to < base + 64)
target t sound base end start x end_is start_is early =
    early_target (counts_by t.rule t.ops.items) t.latencies t.ops.items (graph_of t.edges) sound.graph base end x end_is (omega arith)

pub get-edge-requires : goal.get-edge-requires
get-edge-requires c = (target c.args.tables.now c.requires.sound c.args.base c.min-end.result c.start-x.result
    (c.loop-x.x - 1) (rw c.op_count.ensures at c.min-end.ensures) c.start-x.ensures (omega arith)).0

pub own-requires : goal.own-requires
own-requires c =
    let early = target c.args.tables.now c.requires.sound c.args.base c.min-end.result c.start-x.result
    (c.loop-x.x - 1) (rw c.op_count.ensures at c.min-end.ensures) c.start-x.ensures (omega arith) in
    let to = ap (λ (d : Edge). d.to) c.get-edge.ensures in
    omega (arith, early.1)

pub loop-x-preserved : goal.loop-x-preserved
loop-x-preserved c =
    let t = c.args.tables.now in
    let graph = graph_of t.edges in
    let x : ℕ = c.loop-x.x - 1 in
    let edge = c.get-edge.result in
    let masks : List ℕ = c.loop-x.masks.items in
    let early = target t c.requires.sound c.args.base c.min-end.result c.start-x.result x
    (rw c.op_count.ensures at c.min-end.ensures) c.start-x.ensures (omega arith) in
    let known = read_edge t c.requires.sound.graph.is_graph c.requires.sound.graph.size x edge early.0 c.get-edge.ensures in
    let size : length masks ≡ length t.ops.items = c.loop-x.invariant.size in
    let to = get_or_read masks edge.to c.index.result.now (omega arith) c.index.ensures 0 in
    let from = get_or_read masks edge.from c.index-in-loop-x.result.now (omega arith) c.index-in-loop-x.ensures 0 in
    let before : c.loop-x.x ≡ x + 1 = omega arith in
    marked_more (counts_by t.rule t.ops.items) t.latencies t.ops.items graph c.requires.sound.graph c.args.base masks
    (set masks edge.from (bit_or c.index-in-loop-x.result.now (bit_or c.index.result.now c.own.result))) x edge.from edge.to
    c.own.result (subst (IsMarked (counts_by t.rule t.ops.items) t.latencies t.ops.items graph c.args.base masks) before c.loop-x.invariant) early.0
    (ap (λ (d : Edge). d.from) c.get-edge.ensures) (ap (λ (d : Edge). d.to) c.get-edge.ensures) c.own.ensures.only
    c.own.ensures.all (ap₂ (λ m n. set masks edge.from (bit_or m (bit_or n c.own.result))) from to)

pub returns : goal.returns
returns c =
    let t = c.args.tables.now in
    let done : c.loop-x.x ≡ 0 = omega arith in
    marked_all (counts_by t.rule t.ops.items) t.latencies t.ops.items (graph_of t.edges) c.requires.sound.graph c.args.base c.loop-x.masks.items
    (subst (IsMarked (counts_by t.rule t.ops.items) t.latencies t.ops.items (graph_of t.edges) c.args.base c.loop-x.masks.items) done c.loop-x.invariant)
