-- What the scanner finds at the front of a text: a token, and the rest after it.
use Rattle.std.specs.Prelude.{ℕ, ◌+◌, ◌-◌, ◌*◌, min, nat_lt, Bool, true, false, ◌&&◌, ◌==◌, if◌then◌else◌, Option, Some, None, List, [], ◌∷◌, take, length}
use Rattle.std.specs.List.{list_all}
use Rattle.std.specs.Char.{is_ascii_digit, is_ascii_alphabetic}
use Rattle.iloc_text.specs.declared.line.scan.TheConstants.{ABOVE_LIMIT}
use Rattle.iloc_ops.specs.declared.op.Op.{Op}
use Rattle.iloc_ops.specs.declared.forms.Opcode.{Opcode}
use Rattle.iloc_ops.specs.Forms.{Lead, Value, Operand, operands, number_of, op_of}
use Rattle.iloc_ops.specs.Forms.Lead.{space, comma, arrow}
use Rattle.iloc_ops.specs.Forms.Value.{Constant}
use Rattle.iloc_text.specs.Grammar.{is_blank, is_word_byte}
use Rattle.iloc_text.specs.Steps.Opcodes.{opcode_of, operands_of}

infixl 10 ◌>>=◌
abbrev pub ◌>>=◌ : {A B : Type 0} → Option A → (A → Option B) → Option B
None >>= f = None
(Some x) >>= f = f x

abbrev pub after_blanks : List ℕ → List ℕ
after_blanks [] = []
after_blanks (c ∷ cs) = if is_blank c then after_blanks cs else c ∷ cs

abbrev pub some_blanks_at : List ℕ → Option (List ℕ)
some_blanks_at [] = None
some_blanks_at (c ∷ cs) = if is_blank c then Some (after_blanks cs) else None

-- every number above the limit counts as the least of them
abbrev pub capped : ℕ → ℕ
capped n = min n ABOVE_LIMIT

abbrev pub digits_after : ℕ → List ℕ → ℕ × List ℕ
digits_after value [] = (value, [])
digits_after value (c ∷ cs) =
    if is_ascii_digit c then digits_after (capped (value * 10 + (c - 48))) cs else (value, c ∷ cs)

abbrev pub number_at : List ℕ → Option (ℕ × List ℕ)
number_at [] = None
number_at (c ∷ cs) = if is_ascii_digit c then Some (digits_after 0 (c ∷ cs)) else None

-- the number of a register
abbrev pub register_at : List ℕ → Option (ℕ × List ℕ)
register_at [] = None
register_at (c ∷ cs) = if c == 114 then number_at cs else None

abbrev pub arrow_from : List ℕ → Option (List ℕ)
arrow_from [] = None
arrow_from (c ∷ []) = None
arrow_from (c ∷ d ∷ cs) = if (c == 61) && (d == 62) then Some (after_blanks cs) else None

abbrev pub arrow_at : List ℕ → Option (List ℕ)
arrow_at bytes = arrow_from (after_blanks bytes)

abbrev pub comma_from : List ℕ → Option (List ℕ)
comma_from [] = None
comma_from (c ∷ cs) = if c == 44 then Some (after_blanks cs) else None

abbrev pub comma_at : List ℕ → Option (List ℕ)
comma_at bytes = comma_from (after_blanks bytes)

abbrev pub after_word : List ℕ → List ℕ
after_word [] = []
after_word (c ∷ cs) = if is_word_byte c then after_word cs else c ∷ cs

-- the letters, digits and underscores at the front
abbrev pub word_of : List ℕ → List ℕ
word_of bytes = take (length bytes - length (after_word bytes)) bytes

abbrev pub lead_at : Lead → List ℕ → Option (List ℕ)
lead_at space bytes = some_blanks_at bytes
lead_at comma bytes = comma_at bytes
lead_at arrow bytes = arrow_at bytes

-- the number of a value of this kind
abbrev pub value_at : Value → List ℕ → Option (ℕ × List ℕ)
value_at (Constant n) bytes = number_at bytes
value_at _ bytes = register_at bytes

-- the number of an operand of this kind
abbrev pub operand_at : Operand → List ℕ → Option (ℕ × List ℕ)
operand_at o bytes = lead_at o.lead bytes >>= value_at o.value

-- the number of an operand of this kind, and the numbers after it
unfoldable pub operand_then : Operand → (List ℕ → Option (List ℕ × List ℕ)) → List ℕ → Option (List ℕ × List ℕ)
operand_then o more bytes = do
  found ← operand_at o bytes
  others ← more found.1
  Some (found.0 ∷ others.0, others.1)

-- the numbers of operands that are like the given ones but for their numbers
abbrev pub operands_at : List Operand → List ℕ → Option (List ℕ × List ℕ)
operands_at [] bytes = Some ([], bytes)
operands_at (o ∷ more) bytes = operand_then o (operands_at more) bytes

-- an operation of which the opcode was read
unfoldable pub called_at : Opcode → List ℕ → Option (Op × List ℕ)
called_at opcode bytes = do
  found ← operands_at (operands_of opcode) bytes
  Some (op_of opcode found.0, found.1)

unfoldable pub operation_at : List ℕ → Option (Op × List ℕ)
operation_at bytes = do
  opcode ← opcode_of (word_of bytes)
  called_at opcode (after_word bytes)

-- an operation, or none if there is no word
unfoldable pub optional_operation_at : List ℕ → Option (Option Op × List ℕ)
optional_operation_at [] = Some (None, [])
optional_operation_at (c ∷ cs) = if is_word_byte c then operation_at (c ∷ cs) >>= (λ found. Some (Some found.0, found.1)) else Some (None, c ∷ cs)

-- what follows a colon
abbrev pub after_colon : List ℕ → Option (List ℕ)
after_colon [] = None
after_colon (c ∷ cs) = if c == 58 then Some cs else None

-- the word if a colon was found after it, and otherwise no label
abbrev pub label_or_none : List ℕ → Option (List ℕ) → Option (List ℕ) × List ℕ
label_or_none bytes None = (None, bytes)
label_or_none bytes (Some rest) = (Some (word_of bytes), rest)

-- a label, or none if no word is followed by a colon
unfoldable pub optional_label_at : List ℕ → Option (List ℕ) × List ℕ
optional_label_at [] = (None, [])
optional_label_at (c ∷ cs) =
    if is_ascii_alphabetic c then label_or_none (c ∷ cs) (after_colon (after_blanks (after_word (c ∷ cs)))) else (None, c ∷ cs)

-- nothing is left, or a comment
abbrev pub is_end : List ℕ → Bool
is_end [] = true
is_end (c ∷ []) = false
is_end (c ∷ d ∷ cs) = (c == 47) && (d == 47)

-- the operation in what follows a label, or that there is none
unfoldable pub body_at : List ℕ → Option (Option Op)
body_at bytes = do
  found ← optional_operation_at (after_blanks bytes)
  if is_end (after_blanks found.1) then Some found.0 else None

-- the label and the operation of a line
unfoldable pub line_at : List ℕ → Option (Option (List ℕ) × Option Op)
line_at bytes = do
  op ← body_at (optional_label_at (after_blanks bytes)).1
  Some ((optional_label_at (after_blanks bytes)).0, op)

-- no number was capped
abbrev pub is_within_limit : Op → Bool
is_within_limit op = list_all (λ o. nat_lt (number_of o) ABOVE_LIMIT) (operands op)

abbrev pub is_within : Option Op → Bool
is_within None = true
is_within (Some op) = is_within_limit op
