-- A word that is no number, as a fault quotes it.
use Rattle.std.specs.Prelude.{ℕ, ◌-◌, nat_lt, if◌then◌else◌, List, ◌++◌, length, map, replicate, take, codes}
use Rattle.std.specs.Char.{is_ascii_graphic}
use Rattle.iloc_driver.specs.declared.fault.word.Word.{Word}

-- what a fault keeps of a word: its first 24 bytes, or all and zeros after them, and its length
abbrev pub word_of : List ℕ → Word
word_of text = record { bytes = take 24 text ++ replicate (24 - length text) 0; length = length text }

-- a byte as it is shown: one that can't be printed as `?`
abbrev pub shown_byte : ℕ → ℕ
shown_byte c = if is_ascii_graphic c then c else 63

-- what follows the bytes that are shown of a word: `..` if it has more, and a quote
abbrev pub end_of : Word → List ℕ
end_of word = if nat_lt 24 word.length then codes "..\"" else codes "\""

-- the word in quotes
abbrev pub quoted : Word → List ℕ
quoted word = codes "\"" ++ map shown_byte (take word.length word.bytes) ++ end_of word
