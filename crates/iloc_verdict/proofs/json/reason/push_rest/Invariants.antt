use Rattle.iloc_verdict.proofs.Common.{◌≡◌, ◌++◌, take, codes, flat_map, fact_remark}
use Rattle.iloc_comparison.specs.declared.task.Form.TheVariants.{Json}
use Rattle.iloc_verdict.proofs.json.reason.push_rest.Given as goal

abbrev pub invariant-loop-fact : goal.invariant-loop-fact
invariant-loop-fact l =
    l.text.items ≡ l.initial.text.items ++ flat_map (λ f. codes "," ++ fact_remark Json f) (take l.fact-index l.facts)
