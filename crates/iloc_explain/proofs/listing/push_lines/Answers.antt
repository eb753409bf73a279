use Rattle.std.specs.Prelude.{option_copied}
use Rattle.iloc_explain.specs.Listing.{beginning, line_after}
use Rattle.iloc_explain.proofs.Common.{◌≡◌, ◌+◌, ◌<◌, length, drop, ap, arith, without_nops}
use Rattle.iloc_explain.proofs.Lines.{line_more, nop_passed, op_taken}
use Rattle.iloc_explain.proofs.listing.push_lines.Goals as goal
use Rattle.iloc_explain.proofs.listing.push_lines.Goals.{in-Nop, in_default+in_ok-push_explained-in_default}

pub loop-op-preserved : goal.loop-op-preserved
loop-op-preserved c = elim c.match-op.branch [
  | in-Nop w ↦
      let passed = nop_passed c.args.ops.now c.loop-op.op-index _ c.loop-op-test.true w.in-Nop.is in
      rw (w.text-is, w.j-is, passed) c.loop-op.invariant
  | in_default+in_ok-push_explained-in_default w ↦
      let taken = op_taken c.args.ops.now c.loop-op.op-index _ c.loop-op-test.true w.in_default.not-Nop in
      let left : c.loop-op.j + length (without_nops (drop c.loop-op.op-index c.args.ops.now)) ≡ length c.args.issued.now =
      c.loop-op.invariant.1 in
      let size = ap length taken in
      let known : c.loop-op.j < length c.args.issued.now = omega arith in
      let there : c.loop-op.j < length c.args.explained.now = omega (arith, c.requires.all) in (
        rw (w.text-is, w.j-is)
            (line_more (beginning (option_copied c.args.block)) (line_after (option_copied c.args.block)) c.loop-op.text.items _ _ c.loop-op.j c.args.explained.now _ _ c.args.issued.now
            w.index-explained-j.result _ _ there known w.index-explained-j.is taken c.loop-op.invariant.0
            w.in_ok-push_explained-in_default.ensures),
        rw w.j-is (omega arith),
      )
]
