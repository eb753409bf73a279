-- What holds of every operation, whatever the registers and the memory say.
use Rattle.std.specs.Prelude.{◌≡◌, ℕ, ℤ, pos, true, Contains}
use Rattle.iloc_ops.specs.declared.op.Reg.{Reg}
use Rattle.iloc_ops.specs.declared.op.Op.{Op}
use Rattle.iloc_ops.specs.Registers.{used, defined, with_registers}
use Rattle.iloc_meaning.specs.Address.{is_good}
use Rattle.iloc_meaning.specs.Effect.{effect}
use Rattle.iloc_meaning.specs.Results.{GoesTo}

-- an operation gives a result only where it defines a register, and then it gives one or faults
abbrev pub ResultsGoToRegisters : Type 0
ResultsGoToRegisters = (op : Op) (reg : Reg → ℤ) (word : ℕ → ℤ) → GoesTo (defined op) (effect op reg word)

-- what an operation does depends on the registers that it uses and on the words at good addresses alone
abbrev pub EffectsDependOnUses : Type 0
EffectsDependOnUses = (op : Op) (reg reg' : Reg → ℤ) (word word' : ℕ → ℤ)
    → ((r : Reg) → Contains (used op) r → reg r ≡ reg' r)
    → ((a : ℕ) → is_good (pos a) ≡ true → word a ≡ word' a)
    → effect op reg word ≡ effect op reg' word'

-- an operation with other registers does what the operation does where its own have the values of the new ones
abbrev pub RenamingKeepsEffects : Type 0
RenamingKeepsEffects = (new : Reg → Reg) (own : Reg) (op : Op) (reg : Reg → ℤ) (word : ℕ → ℤ)
    → effect (with_registers new own op) reg word ≡ effect op (λ r. reg (new r)) word
