use Rattle.iloc_verdict.proofs.Common.{◌≡◌, take, issue_cycle}
use Rattle.iloc_verdict.proofs.checked.changes.issue_cycle.Given as goal

abbrev pub invariant-loop-cycle : goal.invariant-loop-cycle
invariant-loop-cycle l = issue_cycle (take l.cycle l.rows) l.number ≡ l.cycle
