use Rattle.std.proofs.lemmas.Grind.{common_steps}
use Rattle.std.proofs.Common.{arith}
use Rattle.std.proofs.lemmas.Int.{to_z-of_z}
use Rattle.iloc_timed.proofs.Following.{after_fault, after_result, after_write, after_output, after_nothing}
use Rattle.iloc_timed.proofs.machine.Machine.issue.Goals as goal

pub returns-in-Faults-clause-after : goal.returns-in-Faults-clause-after
returns-in-Faults-clause-after c = grind (arith, after_fault, common_steps)

pub returns-in_ok-push-in-Gives-clause-after : goal.returns-in_ok-push-in-Gives-clause-after
returns-in_ok-push-in-Gives-clause-after c = grind (arith, after_result, to_z-of_z, common_steps)

pub returns-in_ok-push-in-Writes-clause-after : goal.returns-in_ok-push-in-Writes-clause-after
returns-in_ok-push-in-Writes-clause-after c = grind (arith, after_write, to_z-of_z, common_steps)

pub returns-in_ok-push-in-Emits-clause-after : goal.returns-in_ok-push-in-Emits-clause-after
returns-in_ok-push-in-Emits-clause-after c = grind (arith, after_output, to_z-of_z, common_steps)

pub returns-in-Nothing-clause-after : goal.returns-in-Nothing-clause-after
returns-in-Nothing-clause-after c = grind (arith, after_nothing, common_steps)
