-- What a memory's writes replaced, in order.
use Rattle.std.specs.Prelude.{◌/◌, List, [], ◌∷◌, slice_set, IsTrue, ℤ, pos}
use Rattle.std.specs.List.{All}
use Rattle.iloc_meaning.specs.declared.scratch.Replaced.{Replaced}
use Rattle.iloc_meaning.specs.Address.{is_good}

-- the words with all that was replaced put back, the last first
abbrev pub put_back : List Replaced → List ℤ → List ℤ
put_back [] words = words
put_back (r ∷ later) words = slice_set (put_back later words) (r.address / 4) r.word

-- each was replaced at a good address
abbrev pub AreReplaced : List Replaced → Type 0
AreReplaced replaced = All (λ r. IsTrue (is_good (pos r.address))) replaced
