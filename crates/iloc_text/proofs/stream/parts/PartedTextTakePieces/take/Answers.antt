use Rattle.std.proofs.Common.{◌++◌, refl}
use Rattle.iloc_text.proofs.PartReads.{come_more}
use Rattle.iloc_text.proofs.stream.parts.PartedTextTakePieces.take.Goals as goal

pub returns-then-len-lt-PART : goal.returns-then-len-lt-PART
returns-then-len-lt-PART g c = λ start text goes begins.
    come_more g.P.ReadParts.texts c.args.self.now _ text c.args.piece.now refl refl c.in_ok-extend_from_slice.ensures.items
    (goes begins)

pub returns : goal.returns
returns g c = λ start text goes begins.
    c.in_ok-cut.ensures (text ++ c.args.piece.now)
    (come_more g.P.ReadParts.texts c.args.self.now _ text c.args.piece.now refl refl c.in_ok-extend_from_slice.ensures.items
    (goes begins))
