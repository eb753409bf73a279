use Rattle.iloc_sched.proofs.Common.{◌≡◌, ◌+◌, ◌<◌, ◌≤◌, [], ◌∷◌, ◌++◌, List, length, refl, arith, ◌∙◌, Row, IsSoFar, waiting_count}
use Rattle.iloc_sched.proofs.Choice.NextRow.{few_rows, greedy_at_end, last_filled}
use Rattle.iloc_sched.proofs.Walking.FirstStates.{so_far_opened}
use Rattle.iloc_sched.proofs.scheduler.fill_rows.Goals as goal

pub loop-left-init : goal.loop-left-init
loop-left-init g c =
    let p = c.args.plan.now in
    let so_far : IsSoFar p c.open.new.self [] = grind (arith, so_far_opened) in record {
      same = grind arith;
      taken = (
        [],
        record {
          so_far = so_far;
          taken = g.met.T.TakeRows.took_none p.tables.now.latencies p.tables.now.ops.items c.args.taker.now;
          count = refl;
        },
        λ none c count. absurd (omega arith),
      );
      kept = refl;
      under_way = so_far.under_way;
      left = grind arith;
      few = omega arith;
    }

pub loop-left-preserved : goal.loop-left-preserved
loop-left-preserved g c =
    let inv = c.loop-left.invariant in
    let stepped = (rw inv.same at c.in_ok-issued.ensures.taken) c.args.taker.now inv.taken.0 inv.taken.1 in
    let count : waiting_count c.step.new.self + c.in_ok-issued.issued ≡ waiting_count c.loop-left.waiting = c.in_ok-issued.ensures.count in
    let before : c.loop-left.left ≡ waiting_count c.loop-left.waiting = inv.left in
    let some : 0 < c.loop-left.left = c.loop-left-test.true in
    let rows : List Row = inv.taken.0 in
    let size : length rows ≡ c.loop-left.cycle = inv.taken.1.count in
    let few : length rows ≤ 160000 = few_rows c.args.plan.now c.loop-left.waiting rows c.requires inv.taken.1.so_far (omega arith) in
    let next = stepped.1.so_far.under_way in
    record {
      same = inv.same;
      taken = (
        rows ++ stepped.0 ∷ [],
        stepped.1,
        λ none at. last_filled rows stepped.0 at (stepped.2 (omega arith)),
      );
      kept = c.step.ensures.kept ∙ inv.kept;
      under_way = rw stepped.1.count at next;
      left = omega arith;
      few = omega arith;
    }

pub returns-clause-took : goal.returns-clause-took
returns-clause-took g c =
    let inv = c.loop-left.invariant in
    let left : c.loop-left.left ≡ waiting_count c.loop-left.waiting = inv.left in
    let few : c.loop-left.cycle ≤ 160001 = inv.few in
    let count : length inv.taken.0 ≡ c.loop-left.cycle = inv.taken.1.count in (
      inv.taken.0,
      inv.taken.1.taken,
      omega arith,
      λ block is. greedy_at_end c.args.plan.now c.loop-left.waiting inv.taken.0 block
          c.requires inv.taken.1.so_far (omega arith) (inv.taken.2 (omega arith)) is,
    )
