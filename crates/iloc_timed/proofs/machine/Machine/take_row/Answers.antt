use Rattle.std.proofs.Common.{arith}
use Rattle.iloc_timed.proofs.WholeRuns.{ran_none, ran_row}
use Rattle.iloc_timed.proofs.machine.Machine.take_row.Goals as goal

pub returns-then-not-self-clause-ran : goal.returns-then-not-self-clause-ran
returns-then-not-self-clause-ran c = grind (arith, ran_none)

pub returns-clause-ran : goal.returns-clause-ran
returns-clause-ran c = λ lat rows same count ran.
    ran_row lat c.args.ops.now rows c.args.row c.args.cycle c.args.self.now c.run_row.new.self c.in_ok-self.field-0 count
    (grind arith) c.run_row.ensures.first ran (λ memory log follows. c.in_ok-self.ensures.after lat memory log same follows)
