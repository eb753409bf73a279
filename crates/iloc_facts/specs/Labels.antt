-- What operations share that differ in registers alone.
use Rattle.std.specs.Prelude.{ℕ, List, [], ◌∷◌}
use Rattle.iloc_ops.specs.declared.op.Op.{Op}
use Rattle.iloc_ops.specs.Forms.{Operand, Value, op_of, opcode, operands}
use Rattle.iloc_ops.specs.Forms.Value.{Constant}
use Rattle.iloc_ops.specs.Registers.{with_registers}

-- an operation without its registers: all of them 0
abbrev pub label : Op → Op
label op = with_registers (λ r. record { 0 = 0 }) (record { 0 = 0 }) op

-- the constant among operands, 0 where there is none
abbrev constant_of : Value → ℕ → ℕ
constant_of (Constant n) rest = n
constant_of _ rest = rest

abbrev pub constant_among : List Operand → ℕ
constant_among [] = 0
constant_among (operand ∷ rest) = constant_of operand.value (constant_among rest)

-- that of an operation
abbrev pub constant : Op → ℕ
constant op = constant_among (operands op)

-- the operation with its constant in place of each register
abbrev pub label_key : Op → Op
label_key op = op_of (opcode op) (constant op ∷ constant op ∷ constant op ∷ [])
