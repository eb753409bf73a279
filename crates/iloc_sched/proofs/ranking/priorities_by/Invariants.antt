use Rattle.std.proofs.Common.{◌≡◌, take}
use Rattle.iloc_sched.proofs.ranking.priorities_by.Given as goal

abbrev pub invariant-loop-prio : goal.invariant-loop-prio
invariant-loop-prio l = l.prios.items ≡ take l.prio-index l.prio-items
