use Rattle.std.proofs.Common.{arith}
use Rattle.iloc_sched.proofs.Ranks.Sets.{none_in_blocks}
use Rattle.iloc_sched.proofs.cycle.calendar.Calendar.first_of_blocks.Goals as goal

pub returns-clause-first : goal.returns-clause-first
returns-clause-first c =
    none_in_blocks c.args.self.now c.args.beside c.requires.some
    (λ r low. c.loop-block.invariant.passed r (let past = c.loop-block-test.false in omega arith))
