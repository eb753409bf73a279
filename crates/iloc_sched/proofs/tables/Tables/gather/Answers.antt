use Rattle.iloc_sched.proofs.Common.{take, sym, ◌∙◌, arith}
use Rattle.iloc_sched.proofs.Renamed.RenamingLoop.{nop_passed, op_taken, all_renamed}
use Rattle.iloc_sched.proofs.KeptEdges.SoundGraphs.{filled_by_the_book}
use Rattle.iloc_sched.proofs.tables.Tables.gather.Goals as goal
use Rattle.iloc_sched.proofs.tables.Tables.gather.Goals.{then-not-is_nop+in_ok-push_by_shape, else-not-is_nop}

pub push_by_shape-requires-clause-gathered : goal.push_by_shape-requires-clause-gathered
push_by_shape-requires-clause-gathered c =
    (take c.loop-op.op-index c.as_slice-ops.result.now, c.loop-op.invariant.gathered)

pub loop-op-preserved : goal.loop-op-preserved
loop-op-preserved c = elim c.if-not-is_nop.branch [
  | then-not-is_nop+in_ok-push_by_shape w ↦
      rw (
        w.self-is,
        w.names-is,
        w.lasts-is,
        op_taken _ c.loop-op.op-index _ c.loop-op-test.true (sym c.is_nop.ensures
            ∙ w.if-not-is_nop.true),
      ) (record {
        given = omega (arith, w.in_ok-push_by_shape.ensures.given);
        gathered = w.in_ok-push_by_shape.ensures.gathered _ c.loop-op.invariant.gathered;
        few = omega (arith, w.in_ok-push_by_shape.ensures.size);
        latencies = w.push_by_shape.ensures.latencies ∙ c.loop-op.invariant.latencies;
        capacity = w.push_by_shape.ensures.capacity _ c.loop-op.invariant.capacity;
      })
  | else-not-is_nop w ↦
      rw (
        w.self-is,
        w.names-is,
        w.lasts-is,
        nop_passed _ c.loop-op.op-index _ c.loop-op-test.true (sym c.is_nop.ensures
            ∙ w.if-not-is_nop.false),
      ) (record {
        given = omega arith;
        gathered = c.loop-op.invariant.gathered;
        few = omega arith;
        latencies = c.loop-op.invariant.latencies;
        capacity = c.loop-op.invariant.capacity;
      })
]

pub returns-clause-book : goal.returns-clause-book
returns-clause-book c = filled_by_the_book _ _ c.loop-op.invariant.gathered.filling

pub returns-clause-ops : goal.returns-clause-ops
returns-clause-ops c =
    all_renamed c.args.block.now.ops _ _ _ c.loop-op-test.false c.as_slice-ops.ensures c.loop-op.invariant.gathered.ops
