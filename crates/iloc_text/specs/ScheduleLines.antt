-- Which texts a line of a schedule may have, as schedules are listed.
use Rattle.std.specs.Prelude.{◌≡◌, ◌≢◌, ◌⊎◌, ℕ, ◌≤◌, Bool, true, false, if◌then◌else◌, Option, Some, None, option_map, unwrap_or, Result, Ok, Err, List, [], ◌∷◌, ◌++◌, codes}
use Rattle.std.specs.List.{AllByRecursion}
use Rattle.iloc_ops.specs.Limits.{MAX_NUMBER}
use Rattle.iloc_ops.specs.declared.op.Op.{Op}
use Rattle.iloc_ops.specs.declared.op.Op.TheVariants.{Mult, MultI, Nop}
use Rattle.iloc_text.specs.declared.line.ParseFault.{ParseFault}
use Rattle.iloc_text.specs.declared.line.ParseFault.TheVariants.{Bad, NumberTooLarge}
use Rattle.iloc_text.specs.declared.line.schedule_line.ScheduleLine.{ScheduleLine}
use Rattle.iloc_text.specs.declared.line.schedule_line.ScheduleLine.TheVariants.{Empty, Row, Head, Cycles, Total}
use Rattle.iloc_ops.specs.Forms.{numbers}
use Rattle.iloc_text.specs.Grammar.{◌⋅◌, Text, Blanks, SomeBlanks, Number, OptionalOperation, OptionalComment, Name}

-- What a line says: nothing; a row, with the operation on unit 0 and that on unit 1; that what stands below is of the
-- block with this number and this name; how many cycles a block's schedule takes; or how many all schedules take.
pub data Said : Type 0 where
  nothing : Said
  row : Op → Op → Said
  head : ℕ → Option (List ℕ) → Said
  cycles : ℕ → Said
  total : ℕ → Said

-- an operation with any blanks on both sides, or blanks alone, for `nop`
abbrev pub SlotText : Op → List ℕ → Type 0
SlotText op bytes =
    (given : Option Op) × (op ≡ unwrap_or given Nop) × (Blanks ⋅ OptionalOperation given ⋅ Blanks) bytes

abbrev pub is_product : Op → Bool
is_product (Mult left right dest) = true
is_product (MultI left value dest) = true
is_product _ = false

-- the row of a single operation, unit 0 and unit 1: a product goes on unit 1, any other on unit 0
abbrev pub alone : Op → Op × Op
alone op = if is_product op then (Nop, op) else (op, Nop)

-- `X ; Y`, or `X` alone, where either may be left out
abbrev pub RowText : Op → Op → List ℕ → Type 0
RowText zero one bytes =
    (SlotText zero ⋅ Text (codes ";") ⋅ SlotText one) bytes ⊎ ((op : Op) × SlotText op bytes × ((zero, one) ≡ alone op))

-- the name of a block, `-` where it has none
abbrev pub BlockName : Option (List ℕ) → List ℕ → Type 0
BlockName None = Text (codes "-")
BlockName (Some name) = Name name

-- `[ X ; Y ]` or `[ X ]`, `block K NAME`, `cycles C` or `total T`, with numbers however large
abbrev pub SaidText : Said → List ℕ → Type 0
SaidText nothing = Text []
SaidText (row zero one) = Text (codes "[") ⋅ RowText zero one ⋅ Text (codes "]")
SaidText (head k name) = Text (codes "block") ⋅ SomeBlanks ⋅ Number k ⋅ SomeBlanks ⋅ BlockName name
SaidText (cycles c) = Text (codes "cycles") ⋅ SomeBlanks ⋅ Number c
SaidText (total t) = Text (codes "total") ⋅ SomeBlanks ⋅ Number t

-- the line says this, with numbers however large
abbrev pub SaysWidely : List ℕ → Said → Type 0
SaysWidely line said = (Blanks ⋅ SaidText said ⋅ Blanks ⋅ OptionalComment) line

-- the numbers of what is said, with the ones of the operations in a row
abbrev pub said_numbers : Said → List ℕ
said_numbers nothing = []
said_numbers (row zero one) = numbers zero ++ numbers one
said_numbers (head k name) = k ∷ []
said_numbers (cycles c) = c ∷ []
said_numbers (total t) = t ∷ []

-- the line says this, and each number is at most MAX_NUMBER
abbrev pub Says : List ℕ → Said → Type 0
Says line said = SaysWidely line said × AllByRecursion (λ n. n ≤ MAX_NUMBER) (said_numbers said)

abbrev pub SaysSomething : List ℕ → Type 0
SaysSomething line = (said : Said) × Says line said

-- it would say something if numbers had no limit
abbrev pub SaysSomethingWidely : List ℕ → Type 0
SaysSomethingWidely line = (said : Said) × SaysWidely line said

-- it says more than nothing, with numbers however large
abbrev pub IsScheduleLine : List ℕ → Type 0
IsScheduleLine line = (said : Said) × (said ≢ nothing) × SaysWidely line said

-- what was read from a line
abbrev pub said_of : ScheduleLine → Said
said_of Empty = nothing
said_of (Row zero one) = row zero one
said_of (Head number name) = head number (option_map (λ text. text.now) name)
said_of (Cycles number) = cycles number
said_of (Total number) = total number

-- what the line says, or why it says nothing that is understood
abbrev pub IsSaidBy : List ℕ → Result ScheduleLine ParseFault → Type 0
IsSaidBy line (Ok found) = Says line (said_of found)
IsSaidBy line (Err Bad) = SaysSomethingWidely line → ⊥
IsSaidBy line (Err NumberTooLarge) = SaysSomethingWidely line × (SaysSomething line → ⊥)
