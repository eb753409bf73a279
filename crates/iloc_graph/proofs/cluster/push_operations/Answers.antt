use Rattle.iloc_graph.proofs.Common.{◌≡◌, ◌+◌, ◌<◌, length, drop, ap, arith, without_nops}
use Rattle.iloc_explain.proofs.Lines.{nop_passed, op_taken}
use Rattle.iloc_graph.proofs.Lines.{line_more}
use Rattle.iloc_graph.proofs.cluster.push_operations.Goals as goal
use Rattle.iloc_graph.proofs.cluster.push_operations.Goals.{in-Nop, in_default+in_ok-push_operation-in_default}

pub loop-op-preserved : goal.loop-op-preserved
loop-op-preserved c = elim c.match-op.branch [
  | in-Nop w ↦
      let passed = nop_passed c.args.block.now c.loop-op.op-index _ c.loop-op-test.true w.in-Nop.is in
      rw (w.text-is, w.i-is, passed) c.loop-op.invariant
  | in_default+in_ok-push_operation-in_default w ↦
      let taken = op_taken c.args.block.now c.loop-op.op-index _ c.loop-op-test.true w.in_default.not-Nop in
      let left : c.loop-op.i + length (without_nops (drop c.loop-op.op-index c.args.block.now)) ≡ length c.args.priorities.now =
      c.loop-op.invariant.1 in
      let size = ap length taken in
      let known : c.loop-op.i < length c.args.priorities.now = omega arith in (
        rw (w.text-is, w.i-is)
            (line_more c.loop-op.text.items _ _ c.args.number c.loop-op.i _ _ c.args.priorities.now _ 0 known taken
            c.loop-op.invariant.0 (rw w.from.ensures at w.in_ok-push_operation-in_default.ensures)),
        rw w.i-is (omega arith),
      )
]
