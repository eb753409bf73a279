use Rattle.iloc_explain.proofs.Common.{◌≡◌, ◌++◌, take, flat_map}
use Rattle.iloc_explain.specs.Listing.{stretch_text}
use Rattle.iloc_explain.proofs.listing.push_path.Given as goal

abbrev pub invariant-loop-stretch : goal.invariant-loop-stretch
invariant-loop-stretch l =
    l.text.items ≡ l.initial.text.items ++ flat_map stretch_text (take l.stretch-index l.path)
