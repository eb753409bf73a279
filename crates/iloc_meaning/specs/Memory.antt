-- Memory, and what is seen of one that can be put back.
use Rattle.std.specs.Prelude.{ℕ, ◌+◌, ◌-◌, ◌*◌, ◌/◌, List, ◌++◌, length, map, replicate, slice_index_or, ℤ, pos}
use Rattle.std.specs.Int.{w32, cast_signed}
use Rattle.std.specs.List.{range_with_len}

-- how many words a memory has
abbrev pub WORDS : ℕ
WORDS = 16384

-- the memory of zeros
unfoldable pub zeros : List ℤ
zeros = replicate WORDS (pos 0)

-- the word at a good address
abbrev pub word_at : List ℤ → ℕ → ℤ
word_at memory a = slice_index_or memory (a / 4) (pos 0)

-- the memory of the same size with `word` at each of its addresses
abbrev pub with_words : List ℤ → (ℕ → ℤ) → List ℤ
with_words memory word = map (λ k. word (4 * k)) (range_with_len 0 (length memory))

-- zeros up to the address `at`, then the words as signed 32-bit numbers, then zeros: as many words as a memory has
abbrev pub words_from : ℕ → List ℕ → List ℤ
words_from at words =
    replicate (at / 4) (pos 0)
    ++ map (cast_signed w32) words
    ++ replicate (WORDS - (at / 4 + length words)) (pos 0)

-- the words first handed in, and the words now
pub record ScratchView : Type 0 where
  pub first : List ℤ
  pub words : List ℤ
