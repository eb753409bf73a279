-- The scanner finds the operations of the grammar, with their numbers capped, and finds each of them again.
use Rattle.iloc_text.proofs.Common.{◌≡◌, ℕ, ◌<◌, Bool, true, false, List, [], ◌∷◌, ◌++◌, IfSome, ◌==◌, Some, sym, refl, ap, ◌∙◌, subst, arith, nat_tests, digit_value, Lead, Operand, op_of, opcode, opcode_text, operands, arrow, comma, space, Opcode, Op, Blanks, LeadText, OperandsText, Operation, Text, is_blank, is_word_byte, ◌⋅◌, opcode_of, operands_of, after_blanks, after_word, operands_at, word_of}
use Rattle.iloc_text.specs.Steps.Scan.{called_at, operation_at}
use Rattle.iloc_text.proofs.Parts.{Before, Before-join, Before-split, starts}
use Rattle.iloc_text.proofs.Tokens.{some_map, word_again, word_read, blanks_again}
use Rattle.iloc_text.proofs.Opcodes.{bind_each, opcode_read, opcode_is_word, opcode_starts}
use Rattle.iloc_text.proofs.Starts.{text_starts, blank_is_no_word_byte, digit_is_no_blank, digit_start_by_word, value_fails, operands_fail}
use Rattle.iloc_text.proofs.Operands.{operands_read, operands_again}
use Rattle.iloc_text.proofs.Names.{capped_op, opcode_found, opcode_called, opcode-op_of, operands-op_of}

abbrev pub FindsOperation : List ℕ → Op × List ℕ → Type 0
FindsOperation bytes found = (op : Op) × Before (Operation op) found.1 bytes × (found.0 ≡ capped_op op)

abbrev FindsBehind : Opcode → List ℕ → Op × List ℕ → Type 0
FindsBehind o bytes found = (op : Op) × (opcode op ≡ o) × Before (OperandsText (operands op)) found.1 bytes
    × (found.0 ≡ capped_op op)

called_read : (o : Opcode) (bytes : List ℕ) → IfSome (called_at o bytes) (FindsBehind o bytes)
unfolding called_at capped_op
called_read o bytes = bind_each (FindsBehind o bytes) (operands_at (operands_of o) bytes) _
    (operands_read (operands_of o) bytes) (λ found f. (
      op_of o f.0,
      opcode-op_of o f.0,
      rw (operands-op_of o f.0) f.1,
      rw (operands-op_of o f.0, opcode-op_of o f.0) (ap (op_of o) f.2),
    ))

pub operation_read : (bytes : List ℕ) → IfSome (operation_at bytes) (FindsOperation bytes)
unfolding operation_at
operation_read bytes =
    bind_each (FindsOperation bytes) (opcode_of (word_of bytes)) _ (opcode_read (word_of bytes)) (λ o w.
    some_map (λ found f. (
      f.0,
      Before-join (record { front = word_of bytes; first = w ∙ ap opcode_text (sym f.1); whole = (word_read bytes).1 }) f.2,
      f.3,
    ))
    (called_at o (after_word bytes)) (called_read o (after_word bytes)))

-- an opcode, and behind it what belongs there
pub called_finds : (o : Opcode) (bytes behind : List ℕ) (op : Op) (rest : List ℕ) → bytes ≡ opcode_text o ++ behind
    → called_at o behind ≡ Some (op, rest)
    → FindsOperation bytes (op, rest)
called_finds o bytes behind op rest e called =
    let f : FindsBehind o behind (op, rest) =
    subst (λ found. IfSome found (FindsBehind o behind)) called (called_read o behind) in
    (f.0, Before-join (record { front = opcode_text o; first = ap opcode_text (sym f.1); whole = e }) f.2, f.3)

-- the word at the front is the opcode
operation_word : (op : Op) (rest bytes : List ℕ) → Before (Operation op) rest bytes → starts is_word_byte rest ≡ false
    → (word_of bytes ≡ opcode_text (opcode op)) × Before (OperandsText (operands op)) rest (after_word bytes)
operation_word op rest bytes b s =
    let first = Before-split b in
    let whole : bytes ≡ opcode_text (opcode op) ++ first.0 = first.1.whole ∙ ap (λ f. f ++ first.0) first.1.first in
    let stop = operands_fail (operands op) is_word_byte (record { blank = blank_is_no_word_byte; sign = (refl, refl) })
    first.2 s in
    let word = word_again (opcode_text (opcode op)) first.0 (opcode_is_word (opcode op)) stop in (
      ap word_of whole ∙ word.0,
      subst (Before (OperandsText (operands op)) rest) (sym (ap after_word whole ∙ word.1))
          first.2,
    )

pub operation_again : (op : Op) (rest bytes : List ℕ) → Before (Operation op) rest bytes
    → starts is_word_byte rest ≡ false → operation_at bytes ≡ Some (capped_op op, rest)
unfolding operation_at called_at capped_op
operation_again op rest bytes b s =
    let word = operation_word op rest bytes b s in
    rw (
      word.0,
      opcode_found op,
      opcode_called op (after_word bytes),
      operands_again (operands op) rest (after_word bytes) word.1 (digit_start_by_word rest s),
    ) refl

pub operation_starts : (op : Op) (rest bytes : List ℕ) → Before (Operation op) rest bytes
    → starts is_word_byte bytes ≡ true
operation_starts op rest bytes b = let first = Before-split b in text_starts is_word_byte first.1
    ∙ opcode_starts (opcode op) first.0

-- Behind the word of an operation stands no colon

abbrev is_colon : ℕ → Bool
is_colon c = c == 58

digit_is_no_colon : (c : ℕ) → digit_value c < 10 → is_colon c ≡ false
digit_is_no_colon c h = grind (arith, nat_tests)

sign_colon : {sign rest bytes : List ℕ} → ((rest : List ℕ) → (starts is_blank (sign ++ rest) ≡ false)
    × (starts is_colon (sign ++ rest) ≡ false))
    → Before (Blanks ⋅ Text sign ⋅ Blanks) rest bytes → starts is_colon (after_blanks bytes) ≡ false
sign_colon {sign} {rest} {bytes} fails b =
    let outer = Before-split b in
    let inner = Before-split outer.2 in
    ap (starts is_colon) (blanks_again outer.0 bytes outer.1 (text_starts is_blank inner.1 ∙ (fails inner.0).0))
    ∙ text_starts is_colon inner.1 ∙ (fails inner.0).1

lead_colon : (lead : Lead) (rest bytes : List ℕ) → Before (LeadText lead) rest bytes → starts is_blank rest ≡ false
    → starts is_colon rest ≡ false
    → starts is_colon (after_blanks bytes) ≡ false
lead_colon space rest bytes b blank colon =
    let some : Before Blanks rest bytes = record { front = b.front; first = b.first.1; whole = b.whole } in
    ap (starts is_colon) (blanks_again rest bytes some blank) ∙ colon
lead_colon comma rest bytes b blank colon = sign_colon (λ r. (refl, refl)) b
lead_colon arrow rest bytes b blank colon = sign_colon (λ r. (refl, refl)) b

operands_colon : (operands : List Operand) (rest bytes : List ℕ) → Before (OperandsText operands) rest bytes
    → starts is_colon (after_blanks rest) ≡ false
    → starts is_colon (after_blanks bytes) ≡ false
operands_colon [] rest bytes b s = ap (λ t. starts is_colon (after_blanks t)) (b.whole ∙ ap (λ f. f ++ rest) b.first)
    ∙ s
operands_colon (o ∷ more) rest bytes b s =
    let first = Before-split b in
    let second = Before-split first.2 in
    lead_colon o.lead first.0 bytes first.1
    (value_fails o.value is_blank (record { digit = digit_is_no_blank; letter = refl }) second.1)
    (value_fails o.value is_colon (record { digit = digit_is_no_colon; letter = refl }) second.1)

pub operation_colon : (op : Op) (rest bytes : List ℕ) → Before (Operation op) rest bytes
    → starts is_word_byte rest ≡ false
    → starts is_colon (after_blanks rest) ≡ false → starts is_colon (after_blanks (after_word bytes)) ≡ false
operation_colon op rest bytes b s n = operands_colon (operands op) rest (after_word bytes)
    (operation_word op rest bytes b s).1 n
