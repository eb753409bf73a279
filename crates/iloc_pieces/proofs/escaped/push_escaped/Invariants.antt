use Rattle.std.proofs.Common.{◌≡◌, ◌++◌, take}
use Rattle.std.specs.List.{flat_map}
use Rattle.iloc_pieces.specs.Escaped.{escaped}
use Rattle.iloc_pieces.proofs.escaped.push_escaped.Given as goal

abbrev pub invariant-loop-byte : goal.invariant-loop-byte
invariant-loop-byte l = l.text.items ≡ l.initial.text.items ++ flat_map escaped (take l.byte-index l.bytes)
