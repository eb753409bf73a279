use Rattle.std.specs.Prelude.{length}
use Rattle.iloc_explain.specs.Steps.Issued.{AreIssued}
use Rattle.iloc_explain.proofs.issued.issue_cycles.Given as goal

abbrev pub invariant-loop-cycle : goal.invariant-loop-cycle
invariant-loop-cycle l = AreIssued l.schedule.rows (length l.schedule.ops) l.cycle l.cycles.items
