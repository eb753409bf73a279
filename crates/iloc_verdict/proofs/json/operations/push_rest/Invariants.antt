use Rattle.iloc_verdict.proofs.Common.{◌≡◌, ◌++◌, take, codes, flat_map, row_value}
use Rattle.iloc_verdict.proofs.json.operations.push_rest.Given as goal

abbrev pub invariant-loop-row : goal.invariant-loop-row
invariant-loop-row l =
    l.text.items ≡ l.initial.text.items ++ flat_map (λ r. codes "," ++ row_value l.origins r) (take l.row-index l.rows)
