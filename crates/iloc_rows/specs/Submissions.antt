-- Which blocks and proposals a text denotes, and which refusal.
use Rattle.std.specs.Prelude.{◌≡◌, ℕ, ◌+◌, ◌≤◌, ◌<◌, Bool, false, true, List, [], ◌∷◌, ◌++◌, length, ◌⊎◌}
use Rattle.std.specs.List.{AllByRecursion, join_with_byte}
use Rattle.iloc_ops.specs.Limits.{MAX_INPUT, MAX_OPS}
use Rattle.iloc_ops.specs.declared.file.Block.{Block}
use Rattle.iloc_text.specs.declared.fault.ReadFault.{ReadFault}
use Rattle.iloc_text.specs.declared.fault.ReadFault.TheVariants.{InputTooLong, BadLine, NumberTooLarge, TooManyBlocks, TooManyOperations, NoMemory}
use Rattle.iloc_text.specs.Files as files
use Rattle.iloc_text.specs.Files.{AreLines}
use Rattle.iloc_text.specs.ScheduleLines.{IsScheduleLine}
use Rattle.iloc_rows.specs.declared.fault.RowsFault.{RowsFault}
use Rattle.iloc_rows.specs.declared.fault.RowsFault.TheVariants.{Read, NoBlocks, NoSuchBlock}
use Rattle.iloc_rows.specs.declared.proposal.Proposed.{Proposed}
use Rattle.iloc_rows.specs.Told.{Told, Tells, is_unread}
use Rattle.iloc_rows.specs.Proposing.{proposals_of, is_of_block, op_count, AllFit}

-- below `blocks` the lines after line `n` tell what the other list has, one by one
abbrev pub TellAll : List Block → ℕ → List (List ℕ) → List Told → Type 0
TellAll blocks n [] [] = Unit {0}
TellAll blocks n [] (t ∷ ts) = ⊥
TellAll blocks n (line ∷ lines) [] = ⊥
TellAll blocks n (line ∷ lines) (t ∷ ts) = Tells blocks (n + 1) line t × TellAll blocks (n + 1) lines ts

abbrev pub StartWithSchedule : List (List ℕ) → Type 0
StartWithSchedule [] = Unit {0}
StartWithSchedule (line ∷ lines) = IsScheduleLine line

-- the blocks stand on the lines before the first schedule line
pub record BlocksEnd (before after : List (List ℕ)) : Type 0 where
  pub none : AllByRecursion (λ line. IsScheduleLine line → ⊥) before
  pub first : StartWithSchedule after

-- What is proposed

-- the lines after line `n` propose `proposals` for `blocks`
pub record Propose (blocks : List Block) (n : ℕ) (lines : List (List ℕ)) (proposals : List Proposed) : Type 0 where
  pub told : List Told
  pub tell : TellAll blocks n lines told
  pub fit : AllFit blocks [] told
  pub are : proposals ≡ proposals_of (length blocks) told

-- the bytes denote the blocks and what is proposed for them
pub record Denotes (input : List ℕ) (blocks : List Block) (proposals : List Proposed) : Type 0 where
  pub short : length input ≤ MAX_INPUT
  pub before : List (List ℕ)
  pub after : List (List ℕ)
  pub are_lines : AreLines input (before ++ after)
  pub ends : BlocksEnd before after
  pub file : files.Denotes (join_with_byte 10 before) blocks
  pub some : 0 < length blocks
  pub propose : Propose blocks (length before) after proposals

-- the bytes `input`, which name no blocks, denote `proposals` for `blocks`
pub record ProposeApart (blocks : List Block) (input : List ℕ) (proposals : List Proposed) : Type 0 where
  pub short : length input ≤ MAX_INPUT
  pub lines : List (List ℕ)
  pub are_lines : AreLines input lines
  pub propose : Propose blocks 0 lines proposals

-- the bytes denote the blocks, of which there is one at least
pub record IsTask (input : List ℕ) (blocks : List Block) : Type 0 where
  pub file : files.Denotes input blocks
  pub some : 0 < length blocks

-- two texts, a task and apart from it somebody's rows, denote the task's blocks and what is proposed for them
pub record DenoteApart (text input : List ℕ) (blocks : List Block) (proposals : List Proposed) : Type 0 where
  pub task : IsTask text blocks
  pub rows : ProposeApart blocks input proposals

-- Refusals

-- after lines that tell this line n is of no block that is there, and can't be read or can
pub record IsOfNoBlock (blocks : List Block) (lines : List Told) (line : List ℕ) (n : ℕ) (unread : Bool) : Type 0 where
  pub told : Told
  pub tells : Tells blocks n line told
  pub is : is_unread told ≡ unread
  pub of_none : is_of_block blocks lines told ≡ false

-- after lines that tell this line n makes too many operations of its block
pub record HoldsTooManyOperations (blocks : List Block) (lines : List Told) (line : List ℕ) (n : ℕ) : Type 0 where
  pub told : Told
  pub tells : Tells blocks n line told
  pub of_block : is_of_block blocks lines told ≡ true
  pub many : MAX_OPS < op_count lines told

-- line n, after lines that tell this, has this fault; one that can't be read is bad only where it is of no block
abbrev pub IsFaulty : List Block → List Told → List ℕ → ℕ → RowsFault → Type 0
IsFaulty blocks lines line n (Read InputTooLong) = ⊥
IsFaulty blocks lines line n (Read (BadLine k)) = (k ≡ n) × IsOfNoBlock blocks lines line n true
IsFaulty blocks lines line n (Read (NumberTooLarge k)) = ⊥
IsFaulty blocks lines line n (Read (TooManyBlocks k)) = ⊥
IsFaulty blocks lines line n (Read (TooManyOperations k)) = (k ≡ n) × HoldsTooManyOperations blocks lines line n
IsFaulty blocks lines line n (Read NoMemory) = ⊥
IsFaulty blocks lines line n NoBlocks = ⊥
IsFaulty blocks lines line n (NoSuchBlock k) = (k ≡ n) × IsOfNoBlock blocks lines line n false

-- the first faulty one of the lines after line n has this fault
pub record HaveFirstFault (blocks : List Block) (n : ℕ) (lines : List (List ℕ)) (fault : RowsFault) : Type 0 where
  pub before : List (List ℕ)
  pub line : List ℕ
  pub after : List (List ℕ)
  pub whole : lines ≡ before ++ line ∷ after
  pub told : List Told
  pub tell : TellAll blocks n before told
  pub fit : AllFit blocks [] told
  pub faulty : IsFaulty blocks told line (n + length before + 1) fault

-- the text is refused in its blocks
pub record BlocksAreRefused (input : List ℕ) (fault : ReadFault) : Type 0 where
  pub short : length input ≤ MAX_INPUT
  pub before : List (List ℕ)
  pub after : List (List ℕ)
  pub are_lines : AreLines input (before ++ after)
  pub ends : BlocksEnd before after
  pub refused : files.IsRefused (join_with_byte 10 before) fault

-- the text has no blocks, whatever follows them
pub record HasNoBlocks (input : List ℕ) : Type 0 where
  pub short : length input ≤ MAX_INPUT
  pub before : List (List ℕ)
  pub after : List (List ℕ)
  pub are_lines : AreLines input (before ++ after)
  pub ends : BlocksEnd before after
  pub file : files.Denotes (join_with_byte 10 before) []

-- the text is refused after its blocks
pub record RowsAreRefused (input : List ℕ) (fault : RowsFault) : Type 0 where
  pub short : length input ≤ MAX_INPUT
  pub before : List (List ℕ)
  pub after : List (List ℕ)
  pub are_lines : AreLines input (before ++ after)
  pub ends : BlocksEnd before after
  pub blocks : List Block
  pub file : files.Denotes (join_with_byte 10 before) blocks
  pub some : 0 < length blocks
  pub first : HaveFirstFault blocks (length before) after fault

-- the refusal that the bytes denote
abbrev pub IsRefused : List ℕ → RowsFault → Type 0
IsRefused input (Read InputTooLong) = MAX_INPUT < length input
IsRefused input (Read (BadLine n)) = BlocksAreRefused input (BadLine n) ⊎ RowsAreRefused input (Read (BadLine n))
IsRefused input (Read (NumberTooLarge n)) = BlocksAreRefused input (NumberTooLarge n)
IsRefused input (Read (TooManyBlocks n)) = BlocksAreRefused input (TooManyBlocks n)
IsRefused input (Read (TooManyOperations n)) =
    BlocksAreRefused input (TooManyOperations n) ⊎ RowsAreRefused input (Read (TooManyOperations n))
IsRefused input (Read NoMemory) = ⊥
IsRefused input NoBlocks = HasNoBlocks input
IsRefused input (NoSuchBlock n) = RowsAreRefused input (NoSuchBlock n)

-- somebody's rows have this fault, apart from the blocks
pub record HaveFault (blocks : List Block) (input : List ℕ) (fault : RowsFault) : Type 0 where
  pub short : length input ≤ MAX_INPUT
  pub lines : List (List ℕ)
  pub are_lines : AreLines input lines
  pub first : HaveFirstFault blocks 0 lines fault

-- the refusal that the bytes of rows denote, for the given blocks
abbrev pub AreRefusedFor : List Block → List ℕ → RowsFault → Type 0
AreRefusedFor blocks input (Read InputTooLong) = MAX_INPUT < length input
AreRefusedFor blocks input (Read (BadLine n)) = HaveFault blocks input (Read (BadLine n))
AreRefusedFor blocks input (Read (NumberTooLarge n)) = ⊥
AreRefusedFor blocks input (Read (TooManyBlocks n)) = ⊥
AreRefusedFor blocks input (Read (TooManyOperations n)) = HaveFault blocks input (Read (TooManyOperations n))
AreRefusedFor blocks input (Read NoMemory) = ⊥
AreRefusedFor blocks input NoBlocks = ⊥
AreRefusedFor blocks input (NoSuchBlock n) = HaveFault blocks input (NoSuchBlock n)

-- the refusal that the bytes of a task denote
abbrev pub IsNoTask : List ℕ → RowsFault → Type 0
IsNoTask input (Read fault) = files.IsRefused input fault
IsNoTask input NoBlocks = files.Denotes input []
IsNoTask input (NoSuchBlock n) = ⊥
