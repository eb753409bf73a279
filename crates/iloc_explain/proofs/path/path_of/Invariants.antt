use Rattle.iloc_explain.proofs.Common.{ℕ, List, MemoryRule}
use Rattle.iloc_explain.specs.Explained.{AreExplained}
use Rattle.iloc_explain.specs.Steps.Walk.{IsWalked}
use Rattle.iloc_explain.proofs.path.path_of.Given as goal

abbrev pub invariant-loop-stretch : goal.invariant-loop-stretch
invariant-loop-stretch l =
    (prios : List ℕ) (rule : MemoryRule) → AreExplained prios rule l.latencies l.schedule.ops l.schedule.rows l.explained
    → IsWalked rule l.latencies l.schedule.ops l.schedule.rows l.last l.j l.cycle l.path.items

abbrev pub decreases-loop-stretch : goal.decreases-loop-stretch
decreases-loop-stretch l = l.cycle
