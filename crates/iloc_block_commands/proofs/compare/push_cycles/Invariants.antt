use Rattle.iloc_block_commands.proofs.Common.{◌≡◌, ◌++◌, take, flat_map, heuristics, column, cycles_by}
use Rattle.iloc_block_commands.proofs.compare.push_cycles.Given as goal

abbrev pub invariant-loop-place : goal.invariant-loop-place
invariant-loop-place l =
    l.text.items
    ≡ l.initial.text.items ++ flat_map (λ h. column l.csv h (cycles_by h l.comparison)) (take l.place heuristics)
