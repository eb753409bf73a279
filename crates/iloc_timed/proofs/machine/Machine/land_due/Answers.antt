use Rattle.iloc_timed.proofs.Following.{after_landing}
use Rattle.iloc_timed.proofs.machine.Machine.land_due.Goals as goal

pub returns-clause-follows : goal.returns-clause-follows
returns-clause-follows c = λ memory log follows.
    after_landing memory c.args.cycle log c.args.self.now _ _ _ _ follows c.due.ensures.due
    c.in_ok-land_all.ensures.registers c.in_ok-land_all.ensures.words c.in_ok-land_all.ensures.size c.clear.ensures
