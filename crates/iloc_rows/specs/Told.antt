-- What a line below the blocks tells: it reads as a schedule line, or it can't be read.
use Rattle.std.specs.Prelude.{◌≡◌, ℕ, Bool, true, false, Option, Some, None, List}
use Rattle.iloc_ops.specs.declared.file.Block.{Block}
use Rattle.iloc_text.specs.ScheduleLines.{Said, Says, SaysSomething, said_of}
use Rattle.iloc_rows.specs.Names.{misnamed}
use Rattle.iloc_rows.specs.declared.told.ToldLine.{ToldLine}
use Rattle.iloc_rows.specs.declared.told.ToldLine.TheVariants.{Reads, Unread, Misnamed}

-- what the line says, or the number and the text of one that can't be read; the head of a block by another name is one
-- of them, with the block's number
pub data Told : Type 0 where
  read : Said → Told
  unread : Option ℕ → ℕ → List ℕ → Told

-- whether it is of a line that can't be read, and is no head
abbrev pub is_unread : Told → Bool
is_unread (read said) = false
is_unread (unread None n text) = true
is_unread (unread (Some k) n text) = false

-- the line is the head of block k by another name
abbrev pub Misnames : List Block → List ℕ → ℕ → Type 0
Misnames blocks line k = (said : Said) × Says line said × (misnamed blocks said ≡ Some k)

-- What line `n` of the text tells, whose bytes are `line`, below `blocks`. It can't be read where it says nothing with all
-- its numbers within the limit, or names a block otherwise.
abbrev pub Tells : List Block → ℕ → List ℕ → Told → Type 0
Tells blocks n line (read said) = Says line said × (misnamed blocks said ≡ None)
Tells blocks n line (unread None m text) = (m ≡ n) × (text ≡ line) × (SaysSomething line → ⊥)
Tells blocks n line (unread (Some k) m text) = (m ≡ n) × (text ≡ line) × Misnames blocks line k

-- what was found of line n
abbrev pub told_of : ℕ → ToldLine → Told
told_of n (Reads line) = read (said_of line)
told_of n (Unread text) = unread None n text.now
told_of n (Misnamed k text) = unread (Some k) n text.now
