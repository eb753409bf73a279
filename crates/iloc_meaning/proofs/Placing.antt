-- One word more in the memory that blocks start with.
use Rattle.std.proofs.Common.{◌≡◌, ℕ, ◌+◌, ◌-◌, ◌/◌, ◌<◌, ◌≤◌, List, [], ◌∷◌, ◌++◌, length, map, replicate, set, take, get_or, ℤ, pos, arith, refl, ap, sym, ◌∙◌, add-one, append_assoc, append-nil, length-append, length-take-le}
use Rattle.std.specs.Int.{w32, cast_signed}
use Rattle.std.proofs.lemmas.List.{length-map, length-replicate, replicate-append-replicate, set_at, map_more}
use Rattle.iloc_meaning.specs.Address.{LAST_ADDRESS}
use Rattle.iloc_meaning.specs.Memory.{WORDS, words_from, zeros}

-- without words there are zeros alone
pub placed_none : (at : ℕ) → at ≤ LAST_ADDRESS → zeros ≡ words_from at []
unfolding zeros
placed_none at within =
    let size : at / 4 + (WORDS - (at / 4 + 0)) ≡ WORDS = omega arith in
    rw append-nil (sym (replicate-append-replicate (at / 4) (WORDS - (at / 4 + 0)) (pos 0)
    ∙ ap (λ n. replicate n (pos 0)) size))

-- a word in place of the first of the zeros behind others
pub set_first_zero : (front longer : List ℤ) (n m k : ℕ) (word : ℤ) → length front ≡ n → longer ≡ front ++ word ∷ []
    → k ≡ m + 1 → set (front ++ replicate k (pos 0)) n word ≡ longer ++ replicate m (pos 0)
set_first_zero front longer n m k word here more next =
    rw (next, add-one, more, append_assoc) (set_at front (pos 0) (replicate m (pos 0)) word n here)

-- the next word stands where the zeros behind the others begin
pub placed_more : (at : ℕ) (words : List ℕ) (i d : ℕ) → i < length words → at / 4 + length words ≤ WORDS
    → set (words_from at (take i words)) (at / 4 + i) (cast_signed w32 (get_or words i d))
    ≡ words_from at (take (i + 1) words)
placed_more at words i d within fits =
    let taken : length (take i words) ≡ i = length-take-le i words (omega arith) in
    let more : length (take (i + 1) words) ≡ i + 1 = length-take-le (i + 1) words (omega arith) in
    let front : length (replicate (at / 4) (pos 0) ++ map (cast_signed w32) (take i words)) ≡ at / 4 + i =
    rw (length-append, length-map, length-replicate, taken) refl in
    set_first_zero _ _ _ _ _ _ front
    (rw (map_more (cast_signed w32) words i d within, append_assoc) refl)
    (omega (arith, taken, more))
