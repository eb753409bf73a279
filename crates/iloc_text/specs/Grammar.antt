-- Which texts a line of ILOC may have. A language says of a text whether it is one of its own.
use Rattle.std.specs.Prelude.{◌≡◌, ℕ, ◌≤◌, ◌<◌, Bool, true, ◌||◌, ◌==◌, Option, Some, None, List, [], ◌∷◌, ◌++◌, length, codes}
use Rattle.std.specs.List.{AllByRecursion}
use Rattle.std.specs.Char.{is_ascii_digit, is_ascii_alphabetic}
use Rattle.std.specs.Str.Parse.{IsNumeral, digits_value}
use Rattle.iloc_ops.specs.Limits.{MAX_NUMBER}
use Rattle.iloc_ops.specs.declared.op.Reg.{Reg}
use Rattle.iloc_ops.specs.declared.op.Op.{Op}
use Rattle.iloc_ops.specs.Forms.{Lead, Value, Operand, opcode, operands, opcode_text, numbers}
use Rattle.iloc_ops.specs.Forms.Lead.{space, comma, arrow}
use Rattle.iloc_ops.specs.Forms.Value.{Use, Definition, Constant}

-- a text of the first language, and then one of the second
pub record Joins (P Q : List ℕ → Type 0) (bytes : List ℕ) : Type 0 where
  pub front : List ℕ
  pub rest : List ℕ
  pub first : P front
  pub second : Q rest
  pub whole : bytes ≡ front ++ rest

infixr 20 ◌⋅◌
abbrev pub ◌⋅◌ : (List ℕ → Type 0) → (List ℕ → Type 0) → List ℕ → Type 0
P ⋅ Q = Joins P Q

-- this text alone
abbrev pub Text : List ℕ → List ℕ → Type 0
Text t bytes = bytes ≡ t

-- space, tab or CR
abbrev pub is_blank : ℕ → Bool
is_blank c = c == 32 || c == 9 || c == 13

-- zero or more blanks
abbrev pub Blanks : List ℕ → Type 0
Blanks bytes = AllByRecursion (λ c. is_blank c ≡ true) bytes

-- one or more blanks
abbrev pub SomeBlanks : List ℕ → Type 0
SomeBlanks bytes = (0 < length bytes) × Blanks bytes

-- one digit or more, which write this number, however large
abbrev pub Number : ℕ → List ℕ → Type 0
Number n bytes = IsNumeral 10 bytes × (n ≡ digits_value 10 bytes)

-- `r` and a number, with nothing between
abbrev pub Register : Reg → List ℕ → Type 0
Register r = Text (codes "r") ⋅ Number r.0

-- `=>` and `,`, each with any blanks on both sides
abbrev pub Arrow : List ℕ → Type 0
Arrow = Blanks ⋅ Text (codes "=>") ⋅ Blanks

abbrev pub Comma : List ℕ → Type 0
Comma = Blanks ⋅ Text (codes ",") ⋅ Blanks

-- what precedes an operand: one blank or more, a comma, or an arrow
abbrev pub LeadText : Lead → List ℕ → Type 0
LeadText space = SomeBlanks
LeadText comma = Comma
LeadText arrow = Arrow

abbrev pub ValueText : Value → List ℕ → Type 0
ValueText (Use r) = Register r
ValueText (Definition r) = Register r
ValueText (Constant n) = Number n

-- the operands in order, each after what precedes it
abbrev pub OperandsText : List Operand → List ℕ → Type 0
OperandsText [] = Text []
OperandsText (o ∷ more) = LeadText o.lead ⋅ ValueText o.value ⋅ OperandsText more

-- an operation, with numbers however large: its opcode and its operands
abbrev pub Operation : Op → List ℕ → Type 0
Operation op = Text (opcode_text (opcode op)) ⋅ OperandsText (operands op)

abbrev pub OptionalOperation : Option Op → List ℕ → Type 0
OptionalOperation None = Text []
OptionalOperation (Some op) = Operation op

-- nothing, or `//` and any bytes
abbrev pub OptionalComment : List ℕ → Type 0
OptionalComment [] = Unit {0}
OptionalComment (c ∷ []) = ⊥
OptionalComment (c ∷ d ∷ cs) = (c ≡ 47) × (d ≡ 47)

-- a letter, digit or underscore
abbrev pub is_word_byte : ℕ → Bool
is_word_byte c = is_ascii_alphabetic c || is_ascii_digit c || c == 95

-- a letter, then letters, digits and underscores
abbrev pub IsName : List ℕ → Type 0
IsName [] = ⊥
IsName (c ∷ cs) = (is_ascii_alphabetic c ≡ true) × AllByRecursion (λ d. is_word_byte d ≡ true) cs

-- this name and no other
abbrev pub Name : List ℕ → List ℕ → Type 0
Name name bytes = IsName name × (bytes ≡ name)

-- a name, any blanks and a colon
abbrev pub OptionalLabel : Option (List ℕ) → List ℕ → Type 0
OptionalLabel None = Text []
OptionalLabel (Some name) = Name name ⋅ Blanks ⋅ Text (codes ":")

-- the line reads as this label and this operation, or as none of them, with numbers however large
abbrev pub ReadsWidely : List ℕ → Option (List ℕ) → Option Op → Type 0
ReadsWidely line label op =
    (Blanks ⋅ OptionalLabel label ⋅ Blanks ⋅ OptionalOperation op ⋅ Blanks ⋅ OptionalComment) line

-- each number is at most MAX_NUMBER
abbrev pub IsWithinLimit : Op → Type 0
IsWithinLimit op = AllByRecursion (λ n. n ≤ MAX_NUMBER) (numbers op)

abbrev pub OptionalIsWithinLimit : Option Op → Type 0
OptionalIsWithinLimit None = Unit {0}
OptionalIsWithinLimit (Some op) = IsWithinLimit op

-- the line reads as this label and this operation, or as none of them
abbrev pub Reads : List ℕ → Option (List ℕ) → Option Op → Type 0
Reads line label op = ReadsWidely line label op × OptionalIsWithinLimit op

abbrev pub HasReading : List ℕ → Type 0
HasReading line = (label : Option (List ℕ)) × (op : Option Op) × Reads line label op

-- it would have a reading if numbers had no limit
abbrev pub HasWideReading : List ℕ → Type 0
HasWideReading line = (label : Option (List ℕ)) × (op : Option Op) × ReadsWidely line label op
