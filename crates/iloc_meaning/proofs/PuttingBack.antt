-- A memory is put back from the last write to the first.
use Rattle.std.proofs.Common.{arith, ◌≡◌, ◌/◌, ℕ, List, [], ◌∷◌, ◌++◌, set, ℤ, refl, ap}
use Rattle.std.proofs.lemmas.List.{set-set, set-get_or}
use Rattle.iloc_meaning.specs.declared.scratch.Replaced.{Replaced}
use Rattle.iloc_meaning.specs.Memory.{word_at}
use Rattle.iloc_meaning.specs.Steps.Scratch.{put_back}

-- the last word that was replaced is put back first
pub put_back-last : (replaced : List Replaced) (r : Replaced) (words : List ℤ) → put_back (replaced ++ r ∷ []) words
    ≡ put_back replaced (set words (r.address / 4) r.word)
put_back-last [] r words = refl
put_back-last (s ∷ later) r words = ap (λ back. set back (s.address / 4) s.word) (put_back-last later r words)

-- a write is undone
pub put_back-write : (replaced : List Replaced) (words : List ℤ) (a : ℕ) (old new : ℤ) → old ≡ word_at words a
    → put_back (replaced ++ record { address = a; word = old } ∷ []) (set words (a / 4) new) ≡ put_back replaced words
put_back-write replaced words a old new was = grind (arith, put_back-last, set-set, set-get_or)
