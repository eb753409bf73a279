-- Which registers an operation uses, and which it defines.
use Rattle.std.specs.Prelude.{ℕ, List, map, Option, Some, None, slice_get}
use Rattle.std.specs.List.{filter_map}
use Rattle.iloc_ops.specs.declared.op.Reg.{Reg}
use Rattle.iloc_ops.specs.declared.op.Op.{Op}
use Rattle.iloc_ops.specs.Forms.{Value, opcode, operands, op_of}
use Rattle.iloc_ops.specs.Forms.Value.{Use, Definition, Constant}

abbrev pub used_in : Value → Option Reg
used_in (Use r) = Some r
used_in _ = None

abbrev pub defined_in : Value → Option Reg
defined_in (Definition r) = Some r
defined_in _ = None

-- the used registers, left to right as written
abbrev pub used : Op → List Reg
used op = filter_map (λ o. used_in o.value) (operands op)

-- the defined register
abbrev pub defined : Op → Option Reg
defined op = slice_get (filter_map (λ o. defined_in o.value) (operands op)) 0

-- the number with other registers: `new` of one that is used, and `own` in place of one that is defined
abbrev pub renumbered : (Reg → Reg) → Reg → Value → ℕ
renumbered new own (Use r) = (new r).0
renumbered new own (Definition r) = own.0
renumbered new own (Constant n) = n

-- the operation with other registers
abbrev pub with_registers : (Reg → Reg) → Reg → Op → Op
with_registers new own op = op_of (opcode op) (map (λ o. renumbered new own o.value) (operands op))
