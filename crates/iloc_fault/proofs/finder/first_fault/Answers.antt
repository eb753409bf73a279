use Rattle.std.proofs.Common.{FitsSigned, refl, rules, w32}
use Rattle.std.proofs.lemmas.Int.{to_z-of_z}
use Rattle.iloc_meaning.proofs.Runs.{begins, goes_on}
use Rattle.iloc_fault.proofs.Places.{stops_here}
use Rattle.iloc_fault.proofs.finder.first_fault.Goals as goal

pub loop-operation-init : goal.loop-operation-init
loop-operation-init c = begins _ _ c.restart.ensures.size c.restart.ensures.registers c.restart.ensures.memory
    c.restart.ensures.outputs

pub returns-then-not-branch-clause-place : goal.returns-then-not-branch-clause-place
returns-then-not-branch-clause-place c =
    let fits : FitsSigned w32 c.unwrap_or-address.result = search rules in
    rw (to_z-of_z w32 c.unwrap_or-address.result fits)
    (stops_here _ _ _ _ c.loop-operation.state c.reached.result c.unwrap_or-address.result c.loop-operation-test.true
    c.loop-operation.invariant c.reached.ensures c.unwrap_or-address.ensures
    (rw c.if-not-branch.true at (c.in_ok-step.ensures.after _ _ c.loop-operation.invariant)))

pub loop-operation-preserved : goal.loop-operation-preserved
loop-operation-preserved c =
    goes_on _ _ c.args.ops.now c.loop-operation.operation _ _ refl c.loop-operation-test.true
    (rw c.if-not-branch.false at (c.in_ok-step.ensures.after _ _ c.loop-operation.invariant))
