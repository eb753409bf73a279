-- The registers of an operation, as the code has them.
use Rattle.std.specs.Prelude.{◌≡◌, List, [], ◌∷◌}
use Rattle.iloc_ops.specs.declared.op.Reg.{Reg}
use Rattle.iloc_ops.specs.declared.op.Op.{Op}
use Rattle.iloc_ops.specs.Registers.{used, defined}
use Rattle.iloc_sched.specs.declared.registers.OperandRegisters.{OperandRegisters}
use Rattle.iloc_sched.specs.declared.registers.Uses.{Uses}
use Rattle.iloc_sched.specs.declared.registers.Uses.TheVariants.{Nothing, One, Two}

-- the registers of `Uses`, left to right
abbrev pub listed : Uses → List Reg
listed Nothing = []
listed (One r) = r ∷ []
listed (Two left right) = left ∷ right ∷ []

-- they are the registers of the operation
pub record AreRegistersOf (op : Op) (registers : OperandRegisters) : Type 0 where
  pub uses : listed registers.uses ≡ used op
  pub defines : registers.defines ≡ defined op
