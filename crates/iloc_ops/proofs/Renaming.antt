-- Operations with other registers.
use Rattle.std.proofs.Common.{◌≡◌, map, refl, option_map}
use Rattle.iloc_ops.specs.declared.op.Reg.{Reg}
use Rattle.iloc_ops.specs.declared.op.Op.{Op}
use Rattle.iloc_ops.specs.declared.op.Op.TheVariants.{Nop}
use Rattle.iloc_ops.specs.Registers.{used, defined, with_registers}

pub used-with_registers : (new : Reg → Reg) (own : Reg) (op : Op) → used (with_registers new own op) ≡ map new (used op)
used-with_registers new own Nop = refl
used-with_registers new own _ = refl

pub defined-with_registers : (new : Reg → Reg) (own : Reg) (op : Op) → defined (with_registers new own op)
    ≡ option_map (λ _. own) (defined op)
defined-with_registers new own Nop = refl
defined-with_registers new own _ = refl

-- only the registers in the places of its own count
pub with_registers-same : (new new' : Reg → Reg) (own own' : Reg) (op : Op) → map new (used op) ≡ map new' (used op)
    → option_map (λ _. own) (defined op) ≡ option_map (λ _. own') (defined op)
    → with_registers new own op ≡ with_registers new' own' op
with_registers-same new new' own own' Nop uses defs = refl
with_registers-same new new' own own' _ uses defs = cc
