use Rattle.iloc_explain.proofs.Common.{◌≡◌, ◌++◌, take, codes, flat_map}
use Rattle.iloc_explain.specs.CycleLines.{pair_text}
use Rattle.iloc_explain.proofs.cycle_lines.push_pairs.Given as goal

abbrev pub invariant-loop-pair : goal.invariant-loop-pair
invariant-loop-pair l =
    l.text.items ≡ l.initial.text.items ++ flat_map (λ p. codes "," ++ pair_text l.mark p) (take l.pair-index l.rest)
