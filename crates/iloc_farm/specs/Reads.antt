-- What was read, by what is known of an input before and after.
use Rattle.std.specs.Prelude.{ℕ, List, Option, Some, None}
use Rattle.iloc_ops.specs.declared.file.Block.{Block}
use Rattle.iloc_text.specs.Files.{Denotes}
use Rattle.iloc_text.specs.Streams.{ReadsText}
use Rattle.iloc_rows.specs.declared.proposal.Proposed.{Proposed}
use Rattle.iloc_rows.specs.Submissions as submissions
use Rattle.iloc_driver.specs.Run.Apart.{Held, ReadsApart}

-- the bytes that were read denote `blocks`
pub record ReadsBlocks (old new : Option (List ℕ)) (blocks : List Block) : Type 0 where
  pub input : List ℕ
  pub read : ReadsText old new input
  pub denoted : Denotes input blocks

-- the bytes that were read denote `blocks` and, for each, the rows that are proposed for it
pub record ReadsSubmission (old new : Option (List ℕ)) (blocks : List Block) (proposals : List Proposed) : Type 0 where
  pub input : List ℕ
  pub read : ReadsText old new input
  pub denoted : submissions.Denotes input blocks proposals

-- blocks and rows were read: of one input or, where a file is named, the blocks of that file alone
abbrev pub ReadsRows : Held → (file : Option (List ℕ)) → (old new : Option (List ℕ)) → List Block → List Proposed → Type 0
ReadsRows held None old new blocks proposals = ReadsSubmission old new blocks proposals
ReadsRows held (Some name) old new blocks proposals = ReadsApart (held name) old new blocks proposals
