use Rattle.std.specs.Prelude.{◌≡◌, ◌++◌, take}
use Rattle.iloc_lint.specs.Listing.{shown}
use Rattle.iloc_lint.proofs.shown.push_shown.Given as goal

abbrev pub invariant-loop-byte : goal.invariant-loop-byte
invariant-loop-byte l = l.text.items ≡ l.initial.text.items ++ shown (take l.byte-index l.bytes)
