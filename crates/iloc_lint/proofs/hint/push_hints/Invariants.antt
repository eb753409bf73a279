use Rattle.std.proofs.Common.{◌≡◌, ◌++◌, List, ℕ, flat_map}
use Rattle.iloc_lint.specs.Listing.{hint_line}
use Rattle.iloc_lint.proofs.hint.push_hints.Given as goal

abbrev pub invariant-loop-hint : goal.invariant-loop-hint
invariant-loop-hint l = (said : List (List ℕ)) × (l.text.items ≡ l.initial.text.items ++ flat_map hint_line said)
