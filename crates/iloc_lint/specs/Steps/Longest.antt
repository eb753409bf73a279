-- How far bytes go along the parts of an operation.
use Rattle.std.specs.Prelude.{◌≡◌, ℕ, suc, ◌+◌, ◌*◌, ◌-◌, ◌≤◌, ◌<◌, nat_lt, Bool, true, false, not, ◌&&◌, ◌==◌, if◌then◌else◌, ◌⊎◌, List, [], ◌∷◌, ◌++◌, length, take, drop, codes}
use Rattle.std.specs.Char.{is_ascii_digit, is_ascii_alphabetic}
use Rattle.iloc_ops.specs.Limits.{MAX_NUMBER}
use Rattle.iloc_ops.specs.declared.forms.Opcode.{Opcode}
use Rattle.iloc_ops.specs.Forms.{Lead, Value, Operand, opcode_text, operands, op_of}
use Rattle.iloc_ops.specs.Forms.Lead.{space, comma, arrow}
use Rattle.iloc_ops.specs.Forms.Value.{Use, Definition, Constant}
use Rattle.iloc_text.specs.Grammar.{◌⋅◌, Text, is_blank, is_word_byte, Blanks, SomeBlanks, Number, Comma, Arrow, OptionalComment}
use Rattle.iloc_lint.specs.declared.place.Part.{Part}
use Rattle.iloc_lint.specs.declared.place.Part.TheVariants as part

-- of the bytes this is the longest prefix that some text of the language begins with
pub record Longest (P : List ℕ → Type 0) (bytes : List ℕ) (k : ℕ) : Type 0 where
  pub within : k ≤ length bytes
  pub goes_on : (tail : List ℕ) × P (take k bytes ++ tail)
  pub longest : (j : ℕ) (tail : List ℕ) → j ≤ length bytes → P (take j bytes ++ tail) → j ≤ k

abbrev pub SmallNumber : List ℕ → Type 0
SmallNumber bytes = (n : ℕ) × (n ≤ MAX_NUMBER) × Number n bytes

abbrev pub PartText : Part → List ℕ → Type 0
PartText part.Space = SomeBlanks
PartText part.Comma = Comma
PartText part.Arrow = Arrow
PartText part.Register = Text (codes "r") ⋅ SmallNumber
PartText part.Constant = SmallNumber

-- the parts, blanks and a comment
abbrev pub Rest : List Part → List ℕ → Type 0
Rest [] = Blanks ⋅ OptionalComment
Rest (p ∷ parts) = PartText p ⋅ Rest parts

abbrev pub lead_part : Lead → Part
lead_part space = part.Space
lead_part comma = part.Comma
lead_part arrow = part.Arrow

abbrev pub value_part : Value → Part
value_part (Use r) = part.Register
value_part (Definition r) = part.Register
value_part (Constant n) = part.Constant

abbrev pub parts_in : List Operand → List Part
parts_in [] = []
parts_in (o ∷ more) = lead_part o.lead ∷ value_part o.value ∷ parts_in more

-- the parts after an opcode
abbrev pub parts : Opcode → List Part
parts o = parts_in (operands (op_of o []))

-- what begins with the opcode
abbrev pub Called : Opcode → List ℕ → Type 0
Called o = Text (opcode_text o) ⋅ Rest (parts o)

-- a comment, or what begins with one of the opcodes
abbrev pub Bodies : List Opcode → List ℕ → Type 0
Bodies [] bytes = OptionalComment bytes
Bodies (o ∷ os) bytes = Called o bytes ⊎ Bodies os bytes

abbrev pub is_value : Part → Bool
is_value part.Register = true
is_value part.Constant = true
is_value _ = false

abbrev pub starts_with_value : List Part → Bool
starts_with_value [] = false
starts_with_value (p ∷ parts) = is_value p

-- values follow what leads to them
abbrev pub alternate : List Part → Bool
alternate [] = true
alternate (p ∷ parts) = (if is_value p then not (starts_with_value parts) else starts_with_value parts) && alternate parts

-- How many bytes at the front belong to it

abbrev pub blanks_in : List ℕ → ℕ
blanks_in [] = 0
blanks_in (c ∷ cs) = if is_blank c then suc (blanks_in cs) else 0

abbrev pub word_in : List ℕ → ℕ
word_in [] = 0
word_in (c ∷ cs) = if is_word_byte c then suc (word_in cs) else 0

-- how many digits go on a number whose digits so far make `value`, as long as it is within the limit
abbrev pub digits_in : ℕ → List ℕ → ℕ
digits_in value [] = 0
digits_in value (c ∷ cs) =
    if is_ascii_digit c then (if nat_lt MAX_NUMBER (value * 10 + (c - 48)) then 0 else suc (digits_in (value * 10 + (c - 48)) cs)) else 0

abbrev pub common_in : List ℕ → List ℕ → ℕ
common_in [] bytes = 0
common_in (t ∷ ts) [] = 0
common_in (t ∷ ts) (c ∷ cs) = if c == t then suc (common_in ts cs) else 0

abbrev pub comment_in : List ℕ → ℕ
comment_in [] = 0
comment_in (c ∷ []) = if c == 47 then 1 else 0
comment_in (c ∷ d ∷ cs) = if c == 47 then (if d == 47 then length (c ∷ d ∷ cs) else 1) else 0

abbrev pub starts : (ℕ → Bool) → List ℕ → Bool
starts test [] = false
starts test (c ∷ cs) = test c

-- `count` bytes are digits of a number within the limit; `whole`: they are the whole number
pub record NumberAt (bytes : List ℕ) (count : ℕ) (whole : Bool) : Type 0 where
  pub count_is : count ≡ digits_in 0 bytes
  pub whole_is : whole ≡ (nat_lt 0 count && not (starts is_ascii_digit (drop count bytes)))

-- `count` bytes are `r` and digits of a number within the limit; `whole`: they are the whole register
pub record RegisterAt (bytes : List ℕ) (count : ℕ) (whole : Bool) : Type 0 where
  pub named : (digits : List ℕ) → bytes ≡ 114 ∷ digits → (n : ℕ) × NumberAt digits n whole × (count ≡ n + 1)
  pub other : common_in (codes "r") bytes ≡ 0 → (count ≡ 0) × (whole ≡ false)

-- `count` bytes belong to `sign` with any blanks on both sides, and whether that is all of it
abbrev pub SignAt : List ℕ → List ℕ → ℕ → Bool → Type 0
SignAt sign bytes count true =
    (common_in sign (drop (blanks_in bytes) bytes) ≡ length sign)
    × (count ≡ blanks_in bytes + (length sign + blanks_in (drop (length sign) (drop (blanks_in bytes) bytes))))
SignAt sign bytes count false =
    (common_in sign (drop (blanks_in bytes) bytes) < length sign)
    × (count ≡ blanks_in bytes + common_in sign (drop (blanks_in bytes) bytes))

-- whatever follows a part: after the whole of it the bytes go on along that, and else no further
abbrev pub PartAt : Part → List ℕ → ℕ → Bool → Type 0
PartAt p bytes count true = (more : List Part) (k : ℕ) → alternate (p ∷ more) ≡ true
    → Longest (Rest more) (drop count bytes) k → Longest (Rest (p ∷ more)) bytes (count + k)
PartAt p bytes count false = (more : List Part) → alternate (p ∷ more) ≡ true → Longest (Rest (p ∷ more)) bytes count

abbrev pub colon_in : ℕ → ℕ → List ℕ → ℕ
colon_in start end name = if starts (λ c. c == 58) (drop end name) then start + end + 1 else 0

abbrev pub named_in : ℕ → List ℕ → ℕ
named_in start name = if starts is_ascii_alphabetic name
    then colon_in start (word_in name + blanks_in (drop (word_in name) name)) name else 0

-- blanks and a label; 0 if there is none
abbrev pub label_in : List ℕ → ℕ
label_in line = named_in (blanks_in line) (drop (blanks_in line) line)
