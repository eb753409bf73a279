use Rattle.iloc_sched.proofs.Common.{sym, ◌∙◌, arith, renamed_is_renamed, renaming_keeps_the_outcome}
use Rattle.iloc_sched.proofs.Renamed.RenamingLoop.{nop_passed, op_taken, next_pushed, all_renamed, renamed_fits}
use Rattle.iloc_sched.proofs.renaming.Names.rename_block.Goals as goal
use Rattle.iloc_sched.proofs.renaming.Names.rename_block.Goals.{then-not-is_nop+in_ok-rename+in_ok-push, else-not-is_nop}

pub loop-op-preserved : goal.loop-op-preserved
loop-op-preserved c = elim c.if-not-is_nop.branch [
  | then-not-is_nop+in_ok-rename+in_ok-push w ↦
      let next = w.in_ok-rename.ensures.next _ c.loop-op.invariant.1 in
      rw (
        w.self-is,
        w.ops-is,
        op_taken _ c.loop-op.op-index _ c.loop-op-test.true (sym c.is_nop.ensures
            ∙ w.if-not-is_nop.true),
      ) (
        omega (arith, w.in_ok-rename.ensures.count),
        next.0,
        next_pushed _ _ _ _ _ c.loop-op.invariant.2 next.1 w.in_ok-push.ensures.items,
      )
  | else-not-is_nop w ↦
      rw (
        w.self-is,
        w.ops-is,
        nop_passed _ c.loop-op.op-index _ c.loop-op-test.true (sym c.is_nop.ensures
            ∙ w.if-not-is_nop.false),
      ) (
        omega arith,
        c.loop-op.invariant.1,
        c.loop-op.invariant.2,
      )
]

pub returns-clause-size : goal.returns-clause-size
returns-clause-size c =
    rw (all_renamed c.args.block.now.ops _ _ _ c.loop-op-test.false c.as_slice-op-items.ensures c.loop-op.invariant.2)
    (renamed_fits c.args.block.now.ops)

pub returns-clause-once : goal.returns-clause-once
returns-clause-once c =
    rw (all_renamed c.args.block.now.ops _ _ _ c.loop-op-test.false c.as_slice-op-items.ensures c.loop-op.invariant.2)
    (renamed_is_renamed c.args.block.now.ops)

pub returns-clause-outcome : goal.returns-clause-outcome
returns-clause-outcome c = λ memory.
    rw (all_renamed c.args.block.now.ops _ _ _ c.loop-op-test.false c.as_slice-op-items.ensures c.loop-op.invariant.2)
    (renaming_keeps_the_outcome c.args.block.now.ops memory)
