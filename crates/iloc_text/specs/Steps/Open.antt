-- The block that is being read, after the blocks that were handed over.
use Rattle.std.specs.Prelude.{◌≡◌, ◌-◌, ◌<◌, List, [], ◌∷◌, ◌++◌, length}
use Rattle.iloc_ops.specs.declared.file.Block.{Block}
use Rattle.iloc_text.specs.declared.reader.open_block.OpenBlock.{OpenBlock}

-- `blocks`, all so far, are `done` and then the open block, if one is open
pub record AreSoFar (done : List Block) (open_block : OpenBlock) (blocks : List Block) : Type 0 where
  pub before : length done ≡ open_block.count - 1
  pub count : length blocks ≡ open_block.count
  pub last : 0 < open_block.count → blocks ≡ done ++ open_block.block ∷ []

-- the blocks before the open one are taken
abbrev pub HasTaken : {T : Type 0} → (took : T → List Block → T → Type 0) → T → T → OpenBlock → List Block → Type 0
HasTaken took start now open_block blocks = (done : List Block) × took start done now × AreSoFar done open_block blocks
