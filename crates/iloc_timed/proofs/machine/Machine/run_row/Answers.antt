use Rattle.iloc_timed.proofs.WholeRuns.{if_ok, after_row}
use Rattle.iloc_timed.proofs.machine.Machine.run_row.Goals as goal

pub returns-clause-after : goal.returns-clause-after
returns-clause-after c = if_ok _ _ c.issue_slot-2.result
    (λ goes_on says lat memory log same. after_row lat c.args.ops.now c.args.cycle c.args.row c.args.self.now
    c.issue_slot.new.self c.issue_slot-2.new.self goes_on
    (λ memory log follows. rw c.if-not-branch.false at
    (c.in_ok-issue_slot.ensures.after lat memory log same (c.in_ok-land.ensures.follows memory log follows)))
    (λ memory log follows. says lat memory log same follows) memory log)
    c.issue_slot-2.ensures.after
