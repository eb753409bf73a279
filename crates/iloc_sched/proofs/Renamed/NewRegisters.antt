-- The registers of an operation that is made of an opcode and numbers; for `rename` (`registers`).
use Rattle.iloc_sched.proofs.Common.{◌≡◌, ℕ, suc, List, [], ◌∷◌, get_or, slice_get, filter_map, sym, refl, ap, ◌∙◌, defined_in, used_in, Op, Nop}
use Rattle.iloc_ops.specs.declared.forms.Opcode.{Opcode}
use Rattle.iloc_ops.specs.declared.forms.Operands.{Operands}
use Rattle.iloc_ops.specs.Forms.{Value, Operand, ◌▹◌, opcode, operands, op_of}
use Rattle.iloc_ops.specs.Forms.Value.{Use, Definition, Constant}
use Rattle.iloc_ops.specs.Operands.{operands_in}
use Rattle.iloc_sched.specs.declared.registers.OperandRegisters.{OperandRegisters}
use Rattle.iloc_sched.specs.Steps.Renaming.Registers.{listed, AreRegistersOf}

-- an operand's value with another number
abbrev with_number : Value → ℕ → Value
with_number (Use r) n = Use (record { 0 = n })
with_number (Definition r) n = Definition (record { 0 = n })
with_number (Constant m) n = Constant n

-- operands with other numbers, those of a list from place k on
abbrev pub with_numbers : List Operand → List ℕ → ℕ → List Operand
with_numbers [] numbers k = []
with_numbers (operand ∷ rest) numbers k =
    operand.lead ▹ with_number operand.value (get_or numbers k 0) ∷ with_numbers rest numbers (suc k)

operands_of : (op : Op) (numbers : List ℕ) → operands (op_of (opcode op) numbers) ≡ with_numbers (operands op) numbers 0
operands_of Nop numbers = refl
operands_of _ numbers = refl

-- an operation of the same form has the registers that are among its numbers
pub new_registers : (op op' : Op) (o : Opcode) (written shape : Operands) (numbers : List ℕ)
    (registers : OperandRegisters) → o ≡ opcode op → operands_in written ≡ operands op → written ≡ shape
    → op' ≡ op_of o numbers
    → listed registers.uses ≡ filter_map (λ w. used_in w.value) (with_numbers (operands_in shape) numbers 0)
    → registers.defines
    ≡ slice_get (filter_map (λ w. defined_in w.value) (with_numbers (operands_in shape) numbers 0)) 0
    → AreRegistersOf op' registers
new_registers op op' o written shape numbers registers same has of_shape is uses defines =
    let all : operands op' ≡ with_numbers (operands_in shape) numbers 0 =
    ap operands is ∙ ap (λ q. operands (op_of q numbers)) same ∙ operands_of op numbers
    ∙ ap (λ ws. with_numbers ws numbers 0) (sym has ∙ ap operands_in of_shape) in
    record {
      uses = uses ∙ sym (ap (filter_map (λ w. used_in w.value)) all);
      defines = defines ∙ sym (ap (λ ws. slice_get (filter_map (λ w. defined_in w.value) ws) 0) all);
    }
