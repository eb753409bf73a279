use Rattle.iloc_explain.specs.Steps.SoFar.{IsExplainedSoFar}
use Rattle.iloc_explain.proofs.explanation.explain.Given as goal

abbrev pub invariant-loop-j : goal.invariant-loop-j
invariant-loop-j l =
    IsExplainedSoFar l.subject.measures.now.ranks.items l.subject.measures.now.delays.rule
    l.subject.measures.now.delays.latencies.now l.subject.schedule.now.ops l.subject.schedule.now.rows l.j l.explained.items
