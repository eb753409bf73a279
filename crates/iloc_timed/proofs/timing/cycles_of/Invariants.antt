use Rattle.std.proofs.Common.{◌≤◌, length}
use Rattle.iloc_timed.proofs.Arrivals.{IsLastFrom}
use Rattle.iloc_timed.proofs.timing.cycles_of.Given as goal

abbrev pub invariant-loop-left : goal.invariant-loop-left
invariant-loop-left l =
    IsLastFrom l.latencies l.ops l.rows l.left l.last × (l.left ≤ length l.rows)

abbrev pub decreases-loop-left : goal.decreases-loop-left
decreases-loop-left l = l.left
