-- What holds of operations with other registers, and of the limits.
use Rattle.std.specs.Prelude.{◌≡◌, option_map, map}
use Rattle.iloc_ops.specs.declared.op.Reg.{Reg}
use Rattle.iloc_ops.specs.declared.op.Op.{Op}
use Rattle.iloc_ops.specs.declared.limits.TheConstants as code
use Rattle.iloc_ops.specs.Limits.{MAX_INPUT, MAX_BLOCKS, MAX_OPS, MAX_NUMBER}
use Rattle.iloc_ops.specs.Registers.{used, defined, with_registers}

-- an operation with other registers uses the new ones, in the order of its own
abbrev pub RenamingMapsUses : Type 0
RenamingMapsUses = (new : Reg → Reg) (own : Reg) (op : Op) → used (with_registers new own op) ≡ map new (used op)

-- and it defines `own`, if it defines a register
abbrev pub RenamingReplacesTheDefinition : Type 0
RenamingReplacesTheDefinition = (new : Reg → Reg) (own : Reg) (op : Op)
    → defined (with_registers new own op) ≡ option_map (λ _. own) (defined op)

-- the limits of the code are the ones of the definitions
pub record LimitsAreThese : Type 0 where
  pub input : code.MAX_INPUT ≡ MAX_INPUT
  pub blocks : code.MAX_BLOCKS ≡ MAX_BLOCKS
  pub ops : code.MAX_OPS ≡ MAX_OPS
  pub number : code.MAX_NUMBER ≡ MAX_NUMBER
