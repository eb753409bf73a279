-- The listing of what others proposed for a file's blocks: an entry for each block with its proposal, and an ending.
use Rattle.std.specs.Prelude.{ℕ, ◌≡◌, Bool, List, ◌++◌, length}
use Rattle.std.specs.List.{list_all, zip}
use Rattle.iloc_ops.specs.declared.file.Block.{Block}
use Rattle.iloc_rows.specs.declared.proposal.Proposed.{Proposed}
use Rattle.iloc_rows.specs.EitherSlot.{placed}
use Rattle.iloc_args.specs.Flags.{has}
use Rattle.iloc_args.specs.declared.flag.Flag.TheVariants.{EitherSlot}
use Rattle.iloc_args.specs.declared.request.Request.{Request}
use Rattle.iloc_driver.specs.Entries.{AreEntries}
use Rattle.iloc_driver.specs.Fault.{finding_of}
use Rattle.iloc_driver.specs.declared.commands.Finding.{Finding}

-- The text is this opening, the entries of the blocks and of what is proposed for each, numbered from 1 on, and the ending that
-- follows from what is found of them. They passed exactly where each does.
pub record ListsRows {F : Type 0} (lists : ℕ → Block × Proposed → List ℕ → F → Type 0) (opening : List ℕ)
    (ending : List F → List ℕ) (passes : F → Bool) (blocks : List Block) (proposals : List Proposed) (finding : Finding)
    (text : List ℕ) : Type 0 where
  pub as_many : length proposals ≡ length blocks
  pub found : List F
  pub entries : List ℕ
  pub listed : AreEntries lists 1 (zip blocks proposals) found entries
  pub whole : text ≡ opening ++ entries ++ ending found
  pub judged : finding ≡ finding_of (list_all passes found)

-- so the request lists the proposals, with leave for either slot if it gives that
abbrev pub ListsProposed : {F : Type 0} → (Request → ℕ → Block × Proposed → List ℕ → F → Type 0) → (Request → List ℕ)
    → (Request → List F → List ℕ) → (Request → F → Bool) → Request → List Block → List Proposed → Finding → List ℕ → Type 0
ListsProposed lists opening ending passes request blocks proposals finding text =
    ListsRows (lists request) (opening request) (ending request) (passes request) blocks
    (placed (has request.flags EitherSlot) proposals) finding text
