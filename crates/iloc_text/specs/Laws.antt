-- What holds of the language as a whole.
use Rattle.std.specs.Prelude.{◌≡◌, ℕ, Option, Some, None, ◌⊎◌, List}
use Rattle.iloc_ops.specs.declared.op.Op.{Op}
use Rattle.iloc_ops.specs.declared.file.Block.{Block}
use Rattle.iloc_text.specs.declared.fault.ReadFault.{ReadFault}
use Rattle.iloc_text.specs.Grammar.{Reads, IsWithinLimit}
use Rattle.iloc_ops.specs.Spelling.{spelling}
use Rattle.iloc_text.specs.Files.{AreWithinLimits, Denotes, IsRefused}
use Rattle.iloc_text.specs.ScheduleLines.{Said, Says}

-- a line has at most one reading
abbrev pub LinesHaveOneReading : Type 0
LinesHaveOneReading = (line : List ℕ) (label label' : Option (List ℕ)) (op op' : Option Op)
    → Reads line label op → Reads line label' op' → (label ≡ label') × (op ≡ op')

-- a line of a schedule says one thing at most
abbrev pub ScheduleLinesSayOneThing : Type 0
ScheduleLinesSayOneThing = (line : List ℕ) (said said' : Said) → Says line said → Says line said' → said ≡ said'

-- the spelling of an operation reads as that operation
abbrev pub SpellingsReadBack : Type 0
SpellingsReadBack = (op : Op) → IsWithinLimit op → Reads (spelling op) None (Some op)

-- a text denotes at most one file or one refusal, and never both
pub record TextsHaveOneAnswer : Type 0 where
  pub file : (input : List ℕ) (blocks blocks' : List Block) → Denotes input blocks → Denotes input blocks' → blocks ≡ blocks'
  pub refusal : (input : List ℕ) (fault fault' : ReadFault) → IsRefused input fault → IsRefused input fault' → fault ≡ fault'
  pub apart : (input : List ℕ) (blocks : List Block) (fault : ReadFault) → Denotes input blocks → IsRefused input fault → ⊥

-- each text denotes a file or a refusal
abbrev pub TextsHaveAnAnswer : Type 0
TextsHaveAnAnswer = (input : List ℕ)
    → ((blocks : List Block) × Denotes input blocks) ⊎ ((fault : ReadFault) × IsRefused input fault)

-- a file is within the limits
abbrev pub FilesAreWithinLimits : Type 0
FilesAreWithinLimits = (input : List ℕ) (blocks : List Block) → Denotes input blocks
    → AreWithinLimits blocks
