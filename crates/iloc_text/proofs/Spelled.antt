-- The spelling of an operation reads as that operation.
use Rattle.iloc_text.proofs.Common.{ℕ, ◌≤◌, List, [], ◌∷◌, ◌++◌, map, Some, None, codes, decimal, sym, refl, arith, AllByRecursion, Lead, Operand, Value, number_in, number_of, opcode, opcode_text, operands, arrow, comma, space, Constant, Definition, Use, MAX_NUMBER, Op, Blanks, IsWithinLimit, LeadText, Number, OperandsText, Operation, Reads, Text, ValueText}
use Rattle.std.proofs.lemmas.Fmt.{decimal_is_IsNumeral}
use Rattle.iloc_ops.specs.Spelling.{spelled_lead, spelled_value, spelled_operands, spelling}
use Rattle.iloc_text.proofs.Parts.{Before, Before-join, Before-all}

abbrev IsSmall : ℕ → Type 0
IsSmall n = n ≤ MAX_NUMBER

-- Parts, with a rest behind them

text_first : (t rest : List ℕ) → Before (Text t) rest (t ++ rest)
text_first t rest = record { front = t; first = refl; whole = refl }

blanks_first : (rest : List ℕ) → Before Blanks rest rest
blanks_first rest = record { front = []; first = tt; whole = refl }

blank_first : (rest : List ℕ) → Before Blanks rest (codes " " ++ rest)
blank_first rest = record { front = codes " "; first = (refl, tt); whole = refl }

number_first : (n : ℕ) (rest : List ℕ) → IsSmall n → Before (Number n) rest (decimal n ++ rest)
number_first n rest h = let d = decimal_is_IsNumeral n (omega arith) in
    record { front = decimal n; first = (d.0, sym d.1); whole = refl }

lead_first : (lead : Lead) (rest : List ℕ) → Before (LeadText lead) rest (spelled_lead lead ++ rest)
lead_first space rest = record { front = codes " "; first = (omega arith, (refl, tt)); whole = refl }
lead_first comma rest = Before-join (blanks_first (codes ", " ++ rest))
    (Before-join (text_first (codes ",") (codes " " ++ rest)) (blank_first rest))
lead_first arrow rest = Before-join (blank_first (codes "=> " ++ rest))
    (Before-join (text_first (codes "=>") (codes " " ++ rest)) (blank_first rest))

value_first : (value : Value) (rest : List ℕ) → IsSmall (number_in value)
    → Before (ValueText value) rest (spelled_value value ++ rest)
value_first (Use r) rest h = Before-join (text_first (codes "r") (decimal r.0 ++ rest)) (number_first r.0 rest h)
value_first (Definition r) rest h = Before-join (text_first (codes "r") (decimal r.0 ++ rest)) (number_first r.0 rest h)
value_first (Constant n) rest h = number_first n rest h

operands_first : (operands : List Operand) → AllByRecursion IsSmall (map number_of operands)
    → Before (OperandsText operands) [] (spelled_operands operands)
operands_first [] h = text_first [] []
operands_first (o ∷ more) h =
    Before-join (lead_first o.lead (spelled_value o.value ++ spelled_operands more))
    (Before-join (value_first o.value (spelled_operands more) h.0) (operands_first more h.1))

spelled : (op : Op) → IsWithinLimit op → Before (Operation op) [] (spelling op)
spelled op h = Before-join (text_first (opcode_text (opcode op)) (spelled_operands (operands op))) (operands_first (operands op) h)

pub spelling_reads : (op : Op) → IsWithinLimit op → Reads (spelling op) None (Some op)
spelling_reads op h =
    let none = blanks_first (spelling op) in
    let label : Before (Text []) (spelling op) (spelling op) = text_first [] (spelling op) in (
      Before-all (Before-join none (Before-join label (Before-join none (Before-join (spelled op h)
          (Before-join (blanks_first []) (record { front = []; first = tt; whole = refl })))))),
      h,
    )
