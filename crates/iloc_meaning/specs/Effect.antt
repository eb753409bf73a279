-- What one operation does where the registers have the values `reg` and memory has the words `word`, by address.
use Rattle.std.specs.Prelude.{ℕ, Option, Some, None, ℤ, ◌+ℤ◌, ◌-ℤ◌, ◌*ℤ◌}
use Rattle.iloc_ops.specs.declared.op.Reg.{Reg}
use Rattle.iloc_ops.specs.declared.op.Op.{Op}
use Rattle.iloc_ops.specs.declared.op.Op.TheVariants.{Load, LoadI, Store, Add, Sub, Mult, Lshift, Rshift, Output, Nop, AddI, SubI, MultI, LshiftI, RshiftI, LoadAI, StoreAI}
use Rattle.iloc_meaning.specs.declared.effect.Effect.{Effect}
use Rattle.iloc_meaning.specs.declared.effect.Effect.TheVariants.{Faults, Gives, Writes, Emits, Nothing}
use Rattle.iloc_meaning.specs.Address.{good_address}
use Rattle.iloc_meaning.specs.Arithmetic.{wrapped, constant, shifted_left, shifted_right}

-- what is done at the address that a value denotes: a fault if it isn't good
abbrev pub at_address : Option ℕ → (ℕ → Effect) → Effect
at_address None act = Faults
at_address (Some a) act = act a

abbrev pub effect : Op → (Reg → ℤ) → (ℕ → ℤ) → Effect
effect (Load addr dest) reg word = at_address (good_address (reg addr)) (λ a. Gives (word a))
effect (LoadI value dest) reg word = Gives (constant value)
effect (Store value addr) reg word = at_address (good_address (reg addr)) (λ a. Writes a (reg value))
effect (Add left right dest) reg word = Gives (wrapped (reg left +ℤ reg right))
effect (Sub left right dest) reg word = Gives (wrapped (reg left -ℤ reg right))
effect (Mult left right dest) reg word = Gives (wrapped (reg left *ℤ reg right))
effect (Lshift left right dest) reg word = Gives (shifted_left (reg left) (reg right))
effect (Rshift left right dest) reg word = Gives (shifted_right (reg left) (reg right))
effect (Output addr) reg word = at_address (good_address (constant addr)) (λ a. Emits (word a))
effect Nop reg word = Nothing
effect (AddI left value dest) reg word = Gives (wrapped (reg left +ℤ constant value))
effect (SubI left value dest) reg word = Gives (wrapped (reg left -ℤ constant value))
effect (MultI left value dest) reg word = Gives (wrapped (reg left *ℤ constant value))
effect (LshiftI left value dest) reg word = Gives (shifted_left (reg left) (constant value))
effect (RshiftI left value dest) reg word = Gives (shifted_right (reg left) (constant value))
effect (LoadAI addr offset dest) reg word =
    at_address (good_address (wrapped (reg addr +ℤ constant offset))) (λ a. Gives (word a))
effect (StoreAI value addr offset) reg word =
    at_address (good_address (wrapped (reg addr +ℤ constant offset))) (λ a. Writes a (reg value))
