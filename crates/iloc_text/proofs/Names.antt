-- An operation is what its opcode and its numbers make.
use Rattle.iloc_text.proofs.Common.{◌≡◌, ℕ, List, ◌∷◌, map, Some, refl, numbers, op_of, opcode, opcode_text, operands, Opcode, Op, opcode_of, operands_of, capped, operands_at}
use Rattle.iloc_ops.specs.declared.op.Op.TheVariants.{Nop}
use Rattle.iloc_ops.specs.declared.forms.Opcode.TheVariants as O
use Rattle.iloc_text.specs.Steps.Scan.{operand_then}
use Rattle.iloc_text.proofs.Operands.{filled}

-- the operation with each number capped
unfoldable pub capped_op : Op → Op
capped_op op = op_of (opcode op) (map capped (numbers op))

pub opcode_found : (op : Op) → opcode_of (opcode_text (opcode op)) ≡ Some (opcode op)
opcode_found Nop = refl
opcode_found _ = refl

pub opcode_called : (op : Op) (bytes : List ℕ) → operands_at (operands_of (opcode op)) bytes
    ≡ operands_at (operands op) bytes
unfolding operand_then
opcode_called Nop bytes = refl
opcode_called _ bytes = refl

pub op_same : (op : Op) → op_of (opcode op) (numbers op) ≡ op
op_same Nop = refl
op_same _ = refl

pub numbers-capped : (op : Op) → numbers (capped_op op) ≡ map capped (numbers op)
unfolding capped_op
numbers-capped Nop = refl
numbers-capped _ = refl

-- What an opcode makes

pub opcode-op_of : (o : Opcode) (ns : List ℕ) → opcode (op_of o ns) ≡ o
opcode-op_of O.Nop ns = refl
opcode-op_of _ ns = refl

pub operands-op_of : (o : Opcode) (ns : List ℕ) → operands (op_of o ns) ≡ filled (operands_of o) ns
operands-op_of O.Nop ns = refl
operands-op_of _ (a ∷ b ∷ c ∷ ns) = refl
operands-op_of _ _ = refl
