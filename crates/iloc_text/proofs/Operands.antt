-- The scanner finds operands, and finds them again.
use Rattle.iloc_text.proofs.Common.{◌≡◌, ℕ, false, List, [], ◌∷◌, ◌++◌, map, get_or, drop, IfSome, Some, refl, ap, ◌∙◌, ap₂, arith, is_ascii_digit, Lead, Operand, Value, number_in, number_of, ◌▹◌, arrow, comma, space, Constant, Definition, Use, LeadText, OperandsText, ValueText, is_blank, capped, lead_at, operand_at, operands_at, register_at, value_at}
use Rattle.iloc_text.specs.Steps.Scan.{operand_then}
use Rattle.iloc_text.proofs.Parts.{Before, Before-join, Before-split, starts}
use Rattle.iloc_text.proofs.Tokens.{some_map, number_read, number_again, register_read, register_again, some_blanks_read, some_blanks_again, arrow_read, arrow_again, comma_read, comma_again}
use Rattle.iloc_text.proofs.Opcodes.{bind_each}
use Rattle.iloc_text.proofs.Starts.{blank_is_no_digit, digit_is_no_blank, value_fails, operands_fail}

lead_read : (lead : Lead) (bytes : List ℕ) → IfSome (lead_at lead bytes) (λ rest. Before (LeadText lead) rest bytes)
lead_read lead bytes = grind (arith, arrow_read, comma_read, some_blanks_read)

lead_again : (lead : Lead) (rest bytes : List ℕ) → Before (LeadText lead) rest bytes → starts is_blank rest ≡ false
    → lead_at lead bytes ≡ Some rest
lead_again space rest bytes b s = some_blanks_again rest bytes b s
lead_again comma rest bytes b s = comma_again rest bytes b s
lead_again arrow rest bytes b s = arrow_again rest bytes b s

-- the value of this kind with this number
abbrev pub with_number : Value → ℕ → Value
with_number (Use r) n = Use (record { 0 = n })
with_number (Definition r) n = Definition (record { 0 = n })
with_number (Constant m) n = Constant n

abbrev FindsValue : Value → List ℕ → ℕ × List ℕ → Type 0
FindsValue value bytes found = (n : ℕ) × Before (ValueText (with_number value n)) found.1 bytes
    × (found.0 ≡ capped (number_in (with_number value n)))

value_read : (value : Value) (bytes : List ℕ) → IfSome (value_at value bytes) (FindsValue value bytes)
value_read (Constant n) bytes = number_read bytes
value_read value bytes = some_map (λ found f. (f.0.0, f.1, f.2)) (register_at bytes) (register_read bytes)

value_again : (value : Value) (rest bytes : List ℕ) → Before (ValueText value) rest bytes
    → starts is_ascii_digit rest ≡ false
    → value_at value bytes ≡ Some (capped (number_in value), rest)
value_again (Use r) rest bytes b s = register_again r rest bytes b s
value_again (Definition r) rest bytes b s = register_again r rest bytes b s
value_again (Constant n) rest bytes b s = number_again n rest bytes b s

abbrev FindsOperand : Operand → List ℕ → ℕ × List ℕ → Type 0
FindsOperand o bytes found = (start : List ℕ) × Before (LeadText o.lead) start bytes
    × FindsValue o.value start found

operand_read : (o : Operand) (bytes : List ℕ) → IfSome (operand_at o bytes) (FindsOperand o bytes)
operand_read o bytes = bind_each (FindsOperand o bytes) (lead_at o.lead bytes) _ (lead_read o.lead bytes)
    (λ start l. some_map (λ found v. (start, l, v)) (value_at o.value start) (value_read o.value start))

-- the operands of these kinds with these numbers
abbrev pub filled : List Operand → List ℕ → List Operand
filled [] ns = []
filled (o ∷ more) ns = o.lead ▹ with_number o.value (get_or ns 0 0) ∷ filled more (drop 1 ns)

abbrev pub FindsOperands : List Operand → List ℕ → List ℕ × List ℕ → Type 0
FindsOperands operands bytes found = (ns : List ℕ) × Before (OperandsText (filled operands ns)) found.1 bytes
    × (found.0 ≡ map capped (map number_of (filled operands ns)))

pub operands_read : (operands : List Operand) (bytes : List ℕ)
    → IfSome (operands_at operands bytes) (FindsOperands operands bytes)
unfolding operand_then
operands_read [] bytes = ([], record { front = []; first = refl; whole = refl }, refl)
operands_read (o ∷ more) bytes =
    bind_each (FindsOperands (o ∷ more) bytes) (operand_at o bytes) _ (operand_read o bytes) (λ found f.
    bind_each (FindsOperands (o ∷ more) bytes) (operands_at more found.1) _ (operands_read more found.1)
    (λ others more_read. (
      f.2.0 ∷ more_read.0,
      Before-join f.1 (Before-join f.2.1 more_read.1),
      ap₂ (λ n ns. n ∷ ns) f.2.2 more_read.2,
    )))

pub operands_again : (operands : List Operand) (rest bytes : List ℕ) → Before (OperandsText operands) rest bytes
    → starts is_ascii_digit rest ≡ false
    → operands_at operands bytes ≡ Some (map capped (map number_of operands), rest)
unfolding operand_then
operands_again [] rest bytes b s = ap (λ t. Some ([], t)) (b.whole ∙ ap (λ f. f ++ rest) b.first)
operands_again (o ∷ more) rest bytes b s =
    let first = Before-split b in
    let second = Before-split first.2 in
    rw (
      lead_again o.lead first.0 bytes first.1
          (value_fails o.value is_blank (record { digit = digit_is_no_blank; letter = refl }) second.1),
      value_again o.value second.0 first.0 second.1
          (operands_fail more is_ascii_digit (record { blank = blank_is_no_digit; sign = (refl, refl) }) second.2 s),
      operands_again more rest second.0 second.2 s,
    ) refl
