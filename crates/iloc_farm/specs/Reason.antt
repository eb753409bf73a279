-- Why a text isn't understood.
use Rattle.std.specs.Prelude.{◌≡◌, ◌⊎◌, ◌-◌, ℕ, Option, Some, None, false, List, [], ◌∷◌, ◌++◌, length, codes}
use Rattle.std.specs.declared.alloc.Global.{Global}
use Rattle.std.specs.declared.vec.Vec.{Vec}
use Rattle.iloc_driver.specs.Run.Apart.{Held, Holds}
use Rattle.iloc_lint.specs.Listing.{ListsLint}
use Rattle.iloc_lint.specs.Row.{IsRowWording}
use Rattle.iloc_listing.specs.Device.{WritesFront}
use Rattle.iloc_rows.specs.Submissions.{HasNoBlocks}
use Rattle.iloc_text.specs.Fault.{of_line}
use Rattle.iloc_text.specs.Lines.{lines_of}
use Rattle.iloc_text.specs.ScheduleLines.{IsScheduleLine}

-- `line` is line `n` of the text, counted from 1
abbrev pub IsLine : List ℕ → ℕ → List ℕ → Type 0
IsLine text n line =
    (before : List (List ℕ)) × (after : List (List ℕ)) × (length before ≡ n - 1) × (lines_of text ≡ before ++ line ∷ after)

-- `said` are the first three lines of what `lint` lists of a text that doesn't read: what is wrong, the line, and a caret
pub record IsLinted (text said : List ℕ) : Type 0 where
  pub listing : List ℕ
  pub lists : ListsLint text false listing
  pub what : List ℕ
  pub line : List ℕ
  pub caret : List ℕ
  pub more : List (List ℕ)
  pub lines : lines_of listing ≡ what ∷ line ∷ caret ∷ more
  pub whole : said ≡ what ++ codes "\n" ++ line ++ codes "\n" ++ caret ++ codes "\n"

-- what is said of a row among blocks
abbrev pub row_text : List ℕ
row_text = codes "ilocfarm: it has a row where blocks belong\n"

-- and of one in a task
abbrev pub task_row_text : List ℕ
task_row_text = codes "ilocfarm: it has a row where blocks belong, and rows come from standard input: are the two exchanged?\n"

-- `said` is what is said of a line of the text that says more than nothing in a schedule
pub record IsRow (text said : List ℕ) : Type 0 where
  pub n : ℕ
  pub line : List ℕ
  pub is_line : IsLine text n line
  pub row : IsScheduleLine line
  pub told : (said ≡ row_text) ⊎ (said ≡ task_row_text)

-- `said` is what is wrong with line n of the text, read as a row
pub record IsNoRow (text said : List ℕ) : Type 0 where
  pub n : ℕ
  pub line : List ℕ
  pub is_line : IsLine text n line
  pub words : List ℕ
  pub worded : IsRowWording line words
  pub told : said ≡ of_line n (codes ": " ++ words ++ codes "\n")

-- `said` is what is said of a text that has no blocks, whatever follows them
abbrev pub IsOfNoBlocks : List ℕ → List ℕ → Type 0
IsOfNoBlocks text said =
    HasNoBlocks text × (said ≡ codes "ilocfarm: blocks come before their rows, or from a file by --task FILE\n")

-- `said` is nothing, or why the text isn't understood
abbrev pub IsReason : List ℕ → List ℕ → Type 0
IsReason text said = (said ≡ []) ⊎ IsLinted text said ⊎ IsRow text said ⊎ IsNoRow text said ⊎ IsOfNoBlocks text said

-- `said` is nothing, or why a text isn't understood: what was kept of the input, or what a named text holds
abbrev pub MayBeSaid : Held → List ℕ → List ℕ → Type 0
MayBeSaid held kept said = IsReason kept said ⊎ ((name : List ℕ) × (text : List ℕ) × Holds (held name) text × IsReason text said)

-- Such a reason is written, whole or a prefix.
pub record Explains (held : Held) (kept : List ℕ) (old new : Option (List ℕ)) : Type 0 where
  pub reason : List ℕ
  pub may_be_said : MayBeSaid held kept reason
  pub written : WritesFront old new reason

-- the bytes that are kept
abbrev pub bytes_of : Option (Vec ℕ Global) → List ℕ
bytes_of None = []
bytes_of (Some kept) = kept.items

-- of what was kept, `old`, and `bytes` after it the whole is kept, as `new`, or nothing any more
abbrev pub KeepsAlso : Option (Vec ℕ Global) → Option (Vec ℕ Global) → List ℕ → Type 0
KeepsAlso old None bytes = Unit {0}
KeepsAlso None (Some kept) bytes = ⊥
KeepsAlso (Some before) (Some kept) bytes = kept.items ≡ before.items ++ bytes
