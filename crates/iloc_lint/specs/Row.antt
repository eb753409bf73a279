-- What is said of a line among the rows of a schedule that can't be read.
use Rattle.std.specs.Prelude.{ℕ, ◌≡◌, ◌≢◌, ◌⊎◌, Bool, true, false, IsTrue, List, [], ◌++◌, codes, drop}
use Rattle.iloc_text.specs.Grammar.{◌⋅◌, Text, Blanks}
use Rattle.iloc_lint.specs.Listing.{shown}
use Rattle.iloc_lint.specs.declared.row.Wanted.{Wanted}
use Rattle.iloc_lint.specs.declared.row.Wanted.TheVariants.{Row, Operation, Register, Number, SmallNumber, Comma, Arrow, SlotOrEnd, RowEnd, Blank, Name, OwnName, LineEnd}

-- this is left of a line from some place on
abbrev pub IsLeft : List ℕ → List ℕ → Type 0
IsLeft line rest = (at : ℕ) × (rest ≡ drop at line)

-- what follows any blanks
abbrev pub IsAfterBlanks : List ℕ → List ℕ → Type 0
IsAfterBlanks bytes rest = (front : List ℕ) × Blanks front × (bytes ≡ front ++ rest)

-- `found` begins what is left, or says that nothing is
abbrev pub IsNext : List ℕ → List ℕ → Type 0
IsNext rest found = ((rest ≡ []) × (found ≡ codes "end of line"))
    ⊎ ((found ≢ []) × (after : List ℕ) × (rest ≡ found ++ after))

-- what is wanted, in words
abbrev pub wanted_text : Wanted → List ℕ
wanted_text Row = codes "["
wanted_text Operation = codes "an operation"
wanted_text Register = codes "a register"
wanted_text Number = codes "a number"
wanted_text SmallNumber = codes "a number up to 2147483647"
wanted_text Comma = codes "a comma"
wanted_text Arrow = codes "=>"
wanted_text SlotOrEnd = codes "; or ]"
wanted_text RowEnd = codes "]"
wanted_text Blank = codes "a blank"
wanted_text Name = codes "a name or -"
wanted_text OwnName = codes "the block's name"
wanted_text LineEnd = codes "end of line"

-- whether it may be wanted in a claim of cycles, in a block's head, or in a row
abbrev pub is_in_claim : Wanted → Bool
is_in_claim Number = true
is_in_claim SmallNumber = true
is_in_claim LineEnd = true
is_in_claim _ = false

abbrev pub is_in_head : Wanted → Bool
is_in_head Blank = true
is_in_head Name = true
is_in_head OwnName = true
is_in_head wanted = is_in_claim wanted

abbrev pub is_in_row : Wanted → Bool
is_in_row Operation = true
is_in_row Register = true
is_in_row Comma = true
is_in_row Arrow = true
is_in_row SlotOrEnd = true
is_in_row RowEnd = true
is_in_row wanted = is_in_claim wanted

-- any blanks, this word or sign, and any bytes
abbrev pub Starts : List ℕ → List ℕ → Type 0
Starts text = Blanks ⋅ Text text ⋅ (λ _. Unit {0})

-- What may follow: `[` after blanks alone, else what is in a row, a head or a claim, by which of them the line begins as.
abbrev pub MayFollow : List ℕ → Wanted → Type 0
MayFollow front wanted =
    (Blanks front × (wanted ≡ Row))
    ⊎ (Starts (codes "[") front × IsTrue (is_in_row wanted))
    ⊎ (Starts (codes "block") front × IsTrue (is_in_head wanted))
    ⊎ (Starts (codes "cycles") front × IsTrue (is_in_claim wanted))
    ⊎ (Starts (codes "total") front × IsTrue (is_in_claim wanted))

-- `expected W, found F` at a place of the line: W may follow there, and F is what does after any blanks, as bytes are shown
pub record IsRowWording (line words : List ℕ) : Type 0 where
  pub front : List ℕ
  pub rest : List ℕ
  pub whole : line ≡ front ++ rest
  pub wanted : Wanted
  pub may_follow : MayFollow front wanted
  pub left : List ℕ
  pub after_blanks : IsAfterBlanks rest left
  pub found : List ℕ
  pub next : IsNext left found
  pub told : words ≡ codes "expected " ++ wanted_text wanted ++ codes ", found " ++ shown found
