use Rattle.iloc_block_commands.proofs.Common.{◌≡◌, false, ◌++◌, take, sum_by, flat_map, heuristics, column, counted_by, counted}
use Rattle.iloc_block_commands.proofs.compare.push_sums_by.Given as goal

abbrev pub invariant-loop-place : goal.invariant-loop-place
invariant-loop-place l =
    l.text.items
    ≡ l.initial.text.items
    ++ flat_map (λ h. column false h (sum_by (counted_by (counted l.tally) h) l.found)) (take l.place heuristics)
