use Rattle.std.proofs.Common.{◌≡◌, List, ℕ, ◌++◌, map, take, codes}
use Rattle.std.specs.Fmt.{HasWritten, IsPlainFormatter}
use Rattle.iloc_driver.specs.Quoted.{shown_byte}
use Rattle.iloc_driver.proofs.fault.word.WordDisplay.fmt.Given as goal

abbrev pub invariant-loop-byte : goal.invariant-loop-byte
invariant-loop-byte g l = IsPlainFormatter l.fn.f → (done : List ℕ) × HasWritten g.W.Write.write_str_gives l.fn.f done l.f
    × (done ++ map shown_byte (take l.byte-iterator.n l.byte-iterator.iter.rest.now)
    ≡ codes "\"" ++ map shown_byte (take l.self.length l.self.bytes))
