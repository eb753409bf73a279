use Rattle.iloc_explain.proofs.Common.{◌-◌, ◌<◌, ◌≤◌, length, ap, ◌∙◌, arith, Begins, Binds, IsLastToArrive, span}
use Rattle.iloc_explain.proofs.Bindings.{explained_there}
use Rattle.iloc_explain.proofs.PathWalks.{last_latency, last_to_arrive, walk_ends, walk_more, walk_start}
use Rattle.iloc_explain.proofs.Stretches.{binds_long}
use Rattle.iloc_explain.proofs.path.path_of.Goals as goal

pub bounds-ops-last : goal.bounds-ops-last
bounds-ops-last c =
    let last : IsLastToArrive c.args.latencies.now c.args.schedule.now.ops c.args.schedule.now.rows c.in-Some.last =
    last_to_arrive _ _ _ c.deref.result.now c.in-Some.last (c.deref.ensures.value ∙ c.in_ok-arrivals.ensures) c.in-Some.ensures in
    rw c.ops-ops.ensures.ops last.known

pub offset_bounds-ops-last : goal.offset_bounds-ops-last
offset_bounds-ops-last c =
    let last : IsLastToArrive c.args.latencies.now c.args.schedule.now.ops c.args.schedule.now.rows c.in-Some.last =
    last_to_arrive _ _ _ c.deref.result.now c.in-Some.last (c.deref.ensures.value ∙ c.in_ok-arrivals.ensures) c.in-Some.ensures in
    let within : c.in-Some.last < length c.ops-ops.result.now = rw c.ops-ops.ensures.ops last.known in
    omega arith

pub offset_bounds-explained-last : goal.offset_bounds-explained-last
offset_bounds-explained-last c =
    let last : IsLastToArrive c.args.latencies.now c.args.schedule.now.ops c.args.schedule.now.rows c.in-Some.last =
    last_to_arrive _ _ _ c.deref.result.now c.in-Some.last (c.deref.ensures.value ∙ c.in_ok-arrivals.ensures) c.in-Some.ensures in
    let within : c.in-Some.last < length c.args.explained.now = omega (arith, c.requires.2.all, last.known) in
    omega arith

pub bounds-explained-last : goal.bounds-explained-last
bounds-explained-last c =
    let last : IsLastToArrive c.args.latencies.now c.args.schedule.now.ops c.args.schedule.now.rows c.in-Some.last =
    last_to_arrive _ _ _ c.deref.result.now c.in-Some.last (c.deref.ensures.value ∙ c.in_ok-arrivals.ensures) c.in-Some.ensures in
    omega (arith, c.requires.2.all, last.known)

pub bounds-explained-last-in_ok-push : goal.bounds-explained-last-in_ok-push
bounds-explained-last-in_ok-push c =
    let last : IsLastToArrive c.args.latencies.now c.args.schedule.now.ops c.args.schedule.now.rows c.in-Some.last =
    last_to_arrive _ _ _ c.deref.result.now c.in-Some.last (c.deref.ensures.value ∙ c.in_ok-arrivals.ensures) c.in-Some.ensures in
    omega (arith, c.requires.2.all, last.known)

pub loop-stretch-init : goal.loop-stretch-init
loop-stretch-init c = λ prios rule are.
    let last : IsLastToArrive c.args.latencies.now c.args.schedule.now.ops c.args.schedule.now.rows c.in-Some.last =
    last_to_arrive _ _ _ c.deref.result.now c.in-Some.last (c.deref.ensures.value ∙ c.in_ok-arrivals.ensures) c.in-Some.ensures in
    let own = explained_there prios rule c.args.latencies.now c.args.schedule.now.ops c.args.schedule.now.rows c.args.explained.now
    are c.in-Some.last c.index-explained-last.result last.known in
    walk_start rule c.args.latencies.now c.args.schedule.now.ops c.args.schedule.now.rows c.in-Some.last _ _ last.known own.cycle
    (last_latency c.args.latencies.now c.args.schedule.now.ops c.ops-ops.result.now c.in-Some.last _ _ _ _ last.known
    c.ops-ops.ensures.ops c.latency-taken.ensures.latency c.new-path.ensures.items c.in_ok-push.ensures.items)

pub bound-requires-clause-explained : goal.bound-requires-clause-explained
bound-requires-clause-explained c = (c.requires.0, c.requires.1, c.args.latencies.now, c.requires.2)

pub bound-requires-clause-known : goal.bound-requires-clause-known
bound-requires-clause-known c = (c.loop-stretch.invariant c.requires.0 c.requires.1 c.requires.2).known

pub bound-requires-clause-within : goal.bound-requires-clause-within
bound-requires-clause-within c = (c.loop-stretch.invariant c.requires.0 c.requires.1 c.requires.2).within

pub overflow_sub-cycle : goal.overflow_sub-cycle
overflow_sub-cycle c =
    let binds : Binds c.requires.1 c.args.latencies.now c.args.schedule.now.ops c.args.schedule.now.rows c.loop-stretch.j
    c.loop-stretch.cycle c.in-Some-bound.stretch =
    c.in-Some-bound.ensures c.requires.0 c.requires.1 c.args.latencies.now c.requires.2 in
    let long = binds_long c.requires.1 c.args.latencies.now c.args.schedule.now.ops c.args.schedule.now.rows c.loop-stretch.j
    c.loop-stretch.cycle c.in-Some-bound.stretch binds in
    rw c.span-cycle.ensures long.1

pub loop-stretch-smaller : goal.loop-stretch-smaller
loop-stretch-smaller c =
    let binds : Binds c.requires.1 c.args.latencies.now c.args.schedule.now.ops c.args.schedule.now.rows c.loop-stretch.j
    c.loop-stretch.cycle c.in-Some-bound.stretch =
    c.in-Some-bound.ensures c.requires.0 c.requires.1 c.args.latencies.now c.requires.2 in
    let long = binds_long c.requires.1 c.args.latencies.now c.args.schedule.now.ops c.args.schedule.now.rows c.loop-stretch.j
    c.loop-stretch.cycle c.in-Some-bound.stretch binds in
    let some : 0 < span c.in-Some-bound.stretch = long.0 in
    let most : span c.in-Some-bound.stretch ≤ c.loop-stretch.cycle = long.1 in
    rw c.span-cycle.ensures (omega arith)

pub loop-stretch-preserved : goal.loop-stretch-preserved
loop-stretch-preserved c = λ prios rule are.
    let binds : Binds rule c.args.latencies.now c.args.schedule.now.ops c.args.schedule.now.rows c.loop-stretch.j
    c.loop-stretch.cycle c.in-Some-bound.stretch =
    c.in-Some-bound.ensures prios rule c.args.latencies.now are in
    walk_more rule c.args.latencies.now c.args.schedule.now.ops c.args.schedule.now.rows c.in-Some.last c.loop-stretch.j
    c.loop-stretch.cycle c.origin-j.result _ c.in-Some-bound.stretch c.loop-stretch.path.items _ c.ops-ops.ensures.table
    (c.loop-stretch.invariant prios rule are) binds
    c.in_ok-push-2.ensures.items c.origin-j.ensures (ap (λ n. c.loop-stretch.cycle - n) c.span-cycle.ensures)

pub returns : goal.returns
returns c = λ prios rule are.
    let last : IsLastToArrive c.args.latencies.now c.args.schedule.now.ops c.args.schedule.now.rows c.in-Some.last =
    last_to_arrive _ _ _ c.deref.result.now c.in-Some.last (c.deref.ensures.value ∙ c.in_ok-arrivals.ensures) c.in-Some.ensures in
    let begins : Begins rule c.args.latencies.now c.args.schedule.now.ops c.args.schedule.now.rows c.loop-stretch.j
    c.loop-stretch.cycle = c.in_default-bound.ensures prios rule c.args.latencies.now are in
    walk_ends rule c.args.latencies.now c.args.schedule.now.ops c.args.schedule.now.rows c.in-Some.last c.loop-stretch.j
    c.loop-stretch.cycle c.loop-stretch.path.items _ last (c.loop-stretch.invariant prios rule are) begins c.reverse.ensures.items
