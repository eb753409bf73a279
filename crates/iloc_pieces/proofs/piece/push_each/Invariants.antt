use Rattle.std.proofs.Common.{◌≡◌, ◌++◌, take}
use Rattle.std.specs.List.{flat_map}
use Rattle.iloc_pieces.specs.Pieces.{piece_text}
use Rattle.iloc_pieces.proofs.piece.push_each.Given as goal

abbrev pub invariant-loop-piece : goal.invariant-loop-piece
invariant-loop-piece l = l.text.items ≡ l.initial.text.items ++ flat_map piece_text (take l.piece-index l.pieces)
