-- Where a block faults: at which operation, and the address that it reaches.
use Rattle.std.specs.Prelude.{◌≡◌, ◌<◌, false, Option, Some, None, List, length, ℤ, ◌+ℤ◌}
use Rattle.iloc_ops.specs.declared.op.Reg.{Reg}
use Rattle.iloc_ops.specs.declared.op.Op.{Op}
use Rattle.iloc_ops.specs.declared.op.Op.TheVariants.{Load, Store, Output, LoadAI, StoreAI}
use Rattle.iloc_meaning.specs.Address.{is_good}
use Rattle.iloc_meaning.specs.Arithmetic.{wrapped, constant}
use Rattle.iloc_meaning.specs.Outcome.{has_fault, outcome}
use Rattle.iloc_meaning.specs.Trace.{before, op_at, register_after}
use Rattle.iloc_meaning.specs.declared.outcome.Outcome.TheVariants.{Fault}
use Rattle.iloc_fault.specs.declared.place.FaultPlace.{FaultPlace}

-- the address that an operation reaches, if it reaches one, with `reg` as the values of the registers
abbrev pub reached : Op → (Reg → ℤ) → Option ℤ
reached (Load addr dest) reg = Some (reg addr)
reached (Store value addr) reg = Some (reg addr)
reached (LoadAI addr offset dest) reg = Some (wrapped (reg addr +ℤ constant offset))
reached (StoreAI value addr offset) reg = Some (wrapped (reg addr +ℤ constant offset))
reached (Output addr) reg = Some (constant addr)
reached _ reg = None

-- at this place a block faults on this memory: nothing before it does, and the address that it reaches isn't good
pub record IsFaultPlace (ops : List Op) (memory : List ℤ) (place : FaultPlace) : Type 0 where
  pub within : place.operation < length ops
  pub none_before : has_fault (before memory ops place.operation) ≡ false
  pub reaches : reached (op_at ops place.operation) (register_after (before memory ops place.operation)) ≡ Some place.address
  pub bad : is_good place.address ≡ false

-- a block faults at one place at most, and only where its outcome is a fault
pub record BlocksFaultAtOnePlace : Type 0 where
  pub one : (ops : List Op) (memory : List ℤ) (place place' : FaultPlace) → IsFaultPlace ops memory place
      → IsFaultPlace ops memory place' → place ≡ place'
  pub fault : (ops : List Op) (memory : List ℤ) (place : FaultPlace) → IsFaultPlace ops memory place
      → outcome ops memory ≡ Fault
