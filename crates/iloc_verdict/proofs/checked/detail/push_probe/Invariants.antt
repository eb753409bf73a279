use Rattle.iloc_verdict.proofs.Common.{◌≡◌, ◌++◌, take, codes, decimal, flat_map}
use Rattle.iloc_verdict.proofs.checked.detail.push_probe.Given as goal

abbrev pub invariant-loop-word : goal.invariant-loop-word
invariant-loop-word l =
    l.text.items ≡ l.initial.text.items ++ flat_map (λ word. codes " " ++ decimal word) (take l.word-index l.probe.words.items)
