-- Pieces, one after another.
use Rattle.std.proofs.Common.{◌≡◌, ◌++◌, ◌∙◌, ℕ, List, [], ◌∷◌, refl, sym, append-nil, append_assoc}
use Rattle.std.specs.List.{flat_map}
use Rattle.iloc_pieces.specs.declared.piece.Piece.{Piece}
use Rattle.iloc_pieces.specs.Pieces.{piece_text, appended, all_text}

appended_is : (text : List ℕ) (ps : List Piece) → text ++ flat_map piece_text ps ≡ appended text ps
appended_is text [] = append-nil text
appended_is text (p ∷ rest) = sym (append_assoc text (piece_text p) (flat_map piece_text rest)) ∙ appended_is (text ++ piece_text p) rest

pub all_is : (ps : List Piece) → flat_map piece_text ps ≡ all_text ps
all_is [] = refl
all_is (p ∷ rest) = appended_is (piece_text p) rest
