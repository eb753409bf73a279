use Rattle.iloc_verdict.proofs.Common.{◌≡◌, ◌++◌, take, flat_map, fact_told}
use Rattle.iloc_verdict.proofs.checked.reason.push_facts.Given as goal

abbrev pub invariant-loop-fact : goal.invariant-loop-fact
invariant-loop-fact l = l.text.items ≡ l.initial.text.items ++ flat_map fact_told (take l.fact-index l.facts)
