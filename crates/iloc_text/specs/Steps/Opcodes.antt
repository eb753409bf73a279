-- The opcodes that are read.
use Rattle.std.specs.Prelude.{ℕ, List, [], Option, find}
use Rattle.std.specs.Str.{bytes_eq}
use Rattle.iloc_ops.specs.declared.forms.Opcode.{Opcode}
use Rattle.iloc_ops.specs.Forms.{Operand, opcodes, opcode_text, operands, op_of}

-- the opcode that is written so
abbrev pub opcode_of : List ℕ → Option Opcode
opcode_of word = find (λ o. bytes_eq (opcode_text o) word) opcodes

-- the operands of the opcode, with 0 for each number
abbrev pub operands_of : Opcode → List Operand
operands_of o = operands (op_of o [])
