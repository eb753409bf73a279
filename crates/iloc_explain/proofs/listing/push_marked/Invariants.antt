use Rattle.iloc_explain.proofs.Common.{◌≡◌, ◌++◌, take, flat_map}
use Rattle.std.specs.Fmt.{decimal}
use Rattle.iloc_explain.proofs.listing.push_marked.Given as goal

abbrev pub invariant-loop-number : goal.invariant-loop-number
invariant-loop-number l =
    l.text.items ≡ l.initial.text.items ++ flat_map (λ n. l.mark ++ decimal n) (take l.number-index l.numbers)
