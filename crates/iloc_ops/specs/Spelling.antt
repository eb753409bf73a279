-- How an operation is spelled.
use Rattle.std.specs.Prelude.{ℕ, List, [], ◌∷◌, ◌++◌, ◌-◌, drop, codes}
use Rattle.std.specs.Fmt.{decimal}
use Rattle.iloc_ops.specs.declared.op.Op.{Op}
use Rattle.iloc_ops.specs.declared.spelling.layout.Word.{Word}
use Rattle.iloc_ops.specs.Forms.{Lead, Value, Operand, opcode, operands, opcode_text}
use Rattle.iloc_ops.specs.Forms.Lead.{space, comma, arrow}
use Rattle.iloc_ops.specs.Forms.Value.{Use, Definition, Constant}

-- one space, a comma and a space, or ` => `
abbrev pub spelled_lead : Lead → List ℕ
spelled_lead space = codes " "
spelled_lead comma = codes ", "
spelled_lead arrow = codes " => "

-- numbers in decimal with no leading zero
abbrev pub spelled_value : Value → List ℕ
spelled_value (Use r) = codes "r" ++ decimal r.0
spelled_value (Definition r) = codes "r" ++ decimal r.0
spelled_value (Constant n) = decimal n

abbrev pub spelled_operands : List Operand → List ℕ
spelled_operands [] = []
spelled_operands (o ∷ more) = spelled_lead o.lead ++ (spelled_value o.value ++ spelled_operands more)

-- the opcode, one space after it, a comma and a space between two sources and before an offset, ` => ` before the target
abbrev pub spelling : Op → List ℕ
spelling op = opcode_text (opcode op) ++ spelled_operands (operands op)

-- the text that a word is
abbrev pub word_text : Word → List ℕ
word_text word = drop (8 - word.length) word.bytes
