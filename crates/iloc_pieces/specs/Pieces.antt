-- Texts in pieces.
use Rattle.std.specs.Prelude.{ℕ, List, [], ◌∷◌, ◌++◌}
use Rattle.std.specs.Fmt.{decimal, signed_decimal}
use Rattle.std.specs.List.{flat_map}
use Rattle.iloc_ops.specs.Spelling.{spelling}
use Rattle.iloc_pieces.specs.Escaped.{escaped}
use Rattle.iloc_pieces.specs.declared.piece.Piece.{Piece}
use Rattle.iloc_pieces.specs.declared.piece.Piece.TheVariants.{Text, Number, Signed, Operation, Escaped}

abbrev pub piece_text : Piece → List ℕ
piece_text (Text words) = words.now
piece_text (Number n) = decimal n
piece_text (Signed n) = signed_decimal n
piece_text (Operation op) = spelling op
piece_text (Escaped bytes) = flat_map escaped bytes.now

-- a text with pieces appended
abbrev pub appended : List ℕ → List Piece → List ℕ
appended text [] = text
appended text (p ∷ rest) = appended (text ++ piece_text p) rest

-- pieces, one after another
abbrev pub all_text : List Piece → List ℕ
all_text [] = []
all_text (p ∷ rest) = appended (piece_text p) rest
