-- Results on their way to where they are written.
use Rattle.std.specs.Prelude.{ℕ, ◌==◌, if◌then◌else◌, Option, Some, None, IsTrue, ℤ, pos}
use Rattle.iloc_ops.specs.declared.op.Reg.{Reg}
use Rattle.iloc_ops.specs.Registers.{defined}
use Rattle.iloc_meaning.specs.declared.effect.Effect.{Effect}
use Rattle.iloc_meaning.specs.declared.effect.Effect.TheVariants.{Gives, Writes}
use Rattle.iloc_meaning.specs.Address.{is_good}
use Rattle.iloc_meaning.specs.Trace.{Executed}
use Rattle.iloc_timed.specs.declared.wheel.Pending.{Pending}
use Rattle.iloc_timed.specs.declared.wheel.Pending.TheVariants.{Register, Word}

-- what an effect sends to a register, where one is defined
abbrev pub sent_to : Option Reg → ℤ → Option Pending
sent_to None value = None
sent_to (Some r) value = Some (Register r value)

-- what an effect sends on its way, where the operation defines this register
abbrev pub sent_by : Option Reg → Effect → Option Pending
sent_by register (Gives result) = sent_to register result
sent_by register (Writes address word) = Some (Word address word)
sent_by register _ = None

-- what something that was executed sends on its way
abbrev pub sent : Executed → Option Pending
sent e = sent_by (defined e.op) e.effect

-- the value of register r, once the result has landed
abbrev pub landed_in_register : Reg → ℤ → Pending → ℤ
landed_in_register r old (Register s value) = if r.0 == s.0 then value else old
landed_in_register r old (Word address word) = old

-- the word at address a, once the result has landed
abbrev pub landed_in_word : ℕ → ℤ → Pending → ℤ
landed_in_word a old (Register s value) = old
landed_in_word a old (Word address word) = if a == address then word else old

-- a word goes to a good address
abbrev pub CanLand : Pending → Type 0
CanLand (Register s value) = Unit {0}
CanLand (Word address word) = IsTrue (is_good (pos address))
