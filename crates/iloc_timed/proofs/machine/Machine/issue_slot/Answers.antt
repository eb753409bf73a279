use Rattle.iloc_timed.proofs.WholeRuns.{if_ok, after_slot}
use Rattle.iloc_timed.proofs.machine.Machine.issue_slot.Goals as goal

pub returns-in-Some-clause-after : goal.returns-in-Some-clause-after
returns-in-Some-clause-after c = if_ok _ _ c.issue.result
    (λ goes_on says lat memory log same. after_slot lat c.args.ops.now c.args.own.now c.args.cycle c.in-Some.i
    c.args.slot _ c.args.self.now c.issue.new.self goes_on c.in-Some.is c.requires.known same says memory log)
    c.issue.ensures.after
