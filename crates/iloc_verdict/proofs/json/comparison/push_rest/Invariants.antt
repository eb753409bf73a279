use Rattle.iloc_verdict.proofs.Common.{◌≡◌, ◌++◌, take, codes, decimal, flat_map}
use Rattle.iloc_verdict.proofs.json.comparison.push_rest.Given as goal

abbrev pub invariant-loop-number : goal.invariant-loop-number
invariant-loop-number l =
    l.text.items ≡ l.initial.text.items ++ flat_map (λ n. codes "," ++ decimal n) (take l.number-index l.numbers)
