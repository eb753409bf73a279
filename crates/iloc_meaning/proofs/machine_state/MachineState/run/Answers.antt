use Rattle.std.proofs.lemmas.Grind.{common_steps}
use Rattle.std.proofs.Common.{arith, refl}
use Rattle.iloc_meaning.proofs.Runs.{begins, goes_on, stops}
use Rattle.iloc_meaning.proofs.machine_state.MachineState.run.Goals as goal

pub returns-then-not-branch-clause-outcome : goal.returns-then-not-branch-clause-outcome
returns-then-not-branch-clause-outcome c = grind (arith, stops, common_steps)

pub loop-op-preserved : goal.loop-op-preserved
loop-op-preserved c =
    goes_on _ _ c.args.ops.now c.loop-op.op-index _ _ refl c.loop-op-test.true
    (rw c.if-not-branch.false at (c.in_ok-step.ensures.after _ _ c.loop-op.invariant))

pub loop-op-init : goal.loop-op-init
loop-op-init c = begins _ _ c.restart.ensures.size c.restart.ensures.registers c.restart.ensures.memory
    c.restart.ensures.outputs
