-- The blocks that are copied, the last of which don't have their operations yet.
use Rattle.std.specs.Prelude.{◌≡◌, List, [], ◌∷◌, ◌++◌, take, drop}
use Rattle.iloc_text.specs.declared.reader.copies.Copies.{Copies}
use Rattle.iloc_text.specs.declared.reader.copies.Unsettled.{Unsettled}
use Rattle.iloc_ops.specs.declared.file.Block.{Block}
use Rattle.iloc_ops.specs.declared.op.Op.{Op}

-- the blocks that aren't settled, whose operations follow one another
abbrev pub taken_apart : List Unsettled → List Op → List Block
taken_apart [] ops = []
taken_apart (w ∷ ws) ops = record { name = w.name; ops = take w.count ops } ∷ taken_apart ws (drop w.count ops)

abbrev pub all_of : Copies → List Block
all_of copies = copies.done.items ++ taken_apart copies.unsettled.items copies.ops.items

-- from `start` to `now`, `blocks` were copied
abbrev pub has_copied : Copies → List Block → Copies → Type 0
has_copied start blocks now = all_of now ≡ all_of start ++ blocks
