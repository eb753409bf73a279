-- What the words of the environment ask for.
use Rattle.std.specs.Prelude.{ℕ, List, Result, Ok, Err, drop, map}
use Rattle.std.specs.String.{string_bytes}
use Rattle.std.specs.Vec.Iter.{into_iter_items}
use Rattle.std.specs.declared.alloc.Global.{Global}
use Rattle.std.specs.declared.io.Error.{Error}
use Rattle.std.specs.declared.string.String.{String}
use Rattle.std.specs.declared.vec.IntoIter.{IntoIter}
use Rattle.iloc_args.specs.Asked.{Asked}
use Rattle.iloc_args.specs.Due.{Asks}

-- the words that the environment gives, the program's name first
abbrev pub Args : Type 0
Args = IntoIter (String Global) Global

-- the words after the program's name
abbrev pub words_after : Args → List (List ℕ)
words_after args = map string_bytes (drop 1 (into_iter_items args))

-- `words` are what the environment gives and ask for `asked`; an error in their place asks for nothing
abbrev pub AskFor : (words : Result Args Error) → (asked : Asked) → Type 0
AskFor (Ok args) asked = Asks (words_after args) asked
AskFor (Err error) asked = ⊥
