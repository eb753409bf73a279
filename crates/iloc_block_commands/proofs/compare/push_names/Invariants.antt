use Rattle.iloc_block_commands.proofs.Common.{◌≡◌, ◌++◌, take, codes, flat_map, heuristics}
use Rattle.iloc_args.specs.Priority.{priority_word}
use Rattle.iloc_block_commands.proofs.compare.push_names.Given as goal

abbrev pub invariant-loop-heuristic : goal.invariant-loop-heuristic
invariant-loop-heuristic l =
    l.text.items
    ≡ l.initial.text.items ++ flat_map (λ h. codes "," ++ priority_word h) (take l.heuristic-index heuristics)
