use Rattle.iloc_explain.proofs.Common.{◌≡◌, ℕ, List, ◌++◌, flat_map, range_with_len, MemoryRule, IsKept}
use Rattle.iloc_explain.specs.CycleLines.{is_idle_before, line_from}
use Rattle.iloc_explain.specs.Explained.{AreExplained}
use Rattle.iloc_explain.proofs.cycle_lines.push_cycles_of.Given as goal

abbrev pub invariant-loop-cycle : goal.invariant-loop-cycle
invariant-loop-cycle l =
    IsKept l.explained l.cycle l.list
    × ((prios : List ℕ) (rule : MemoryRule) → AreExplained prios rule l.subject.measures.now.delays.latencies.now l.subject.schedule.now.ops l.subject.schedule.now.rows l.explained
    → (l.was_idle ≡ is_idle_before prios rule l.subject.measures.now.delays.latencies.now l.subject.schedule.now.ops l.subject.schedule.now.rows l.cycle)
    × (l.text.items ≡ l.initial.text.items
    ++ flat_map (line_from prios rule l.subject.measures.now.delays.latencies.now l.subject.schedule.now.ops l.subject.schedule.now.rows) (range_with_len 0 l.cycle)))
