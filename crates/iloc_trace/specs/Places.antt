-- Registers and words: what operations read, and where their results go.
use Rattle.std.specs.Prelude.{ℕ, ◌==◌, Bool, false, if◌then◌else◌, List, [], ◌∷◌, ◌++◌, map, Option, Some, None, option_map, option_to_list, ℤ, pos, ◌+ℤ◌}
use Rattle.iloc_ops.specs.declared.op.Reg.{Reg}
use Rattle.iloc_ops.specs.declared.op.Op.{Op}
use Rattle.iloc_ops.specs.declared.op.Op.TheVariants.{Load, LoadAI, Output}
use Rattle.iloc_ops.specs.Registers.{used, defined}
use Rattle.iloc_meaning.specs.declared.effect.Effect.{Effect}
use Rattle.iloc_meaning.specs.declared.effect.Effect.TheVariants.{Gives, Writes}
use Rattle.iloc_meaning.specs.Address.{good_address}
use Rattle.iloc_meaning.specs.Arithmetic.{wrapped, constant}
use Rattle.iloc_meaning.specs.Trace.{Executed}
use Rattle.iloc_timed.specs.Timed.{Issued, register_in, word_in}
use Rattle.iloc_trace.specs.declared.event.Place.{Place}
use Rattle.iloc_trace.specs.declared.event.Place.TheVariants.{Register, Word}

abbrev pub is_same : Place → Place → Bool
is_same (Register r) (Register s) = r.0 == s.0
is_same (Word a) (Word b) = a == b
is_same _ _ = false

-- what is in the place, with `reg` and `word` as the values of registers and words
abbrev pub value_at : (Reg → ℤ) → (ℕ → ℤ) → Place → ℤ
value_at reg word (Register r) = reg r
value_at reg word (Word a) = word a

-- the same where this has arrived
abbrev pub value_in : List ℤ → List Issued → Place → ℤ
value_in memory log place = value_at (register_in log) (word_in memory log) place

-- the address from which the operation reads a word, if it is good
abbrev pub address_read : Op → (Reg → ℤ) → Option ℕ
address_read (Load addr dest) reg = good_address (reg addr)
address_read (LoadAI addr offset dest) reg = good_address (wrapped (reg addr +ℤ constant offset))
address_read (Output addr) reg = good_address (constant addr)
address_read _ reg = None

-- the second of two registers only where it is another one
abbrev pub once : List Reg → List Reg
once (r ∷ s ∷ []) = if r.0 == s.0 then r ∷ [] else r ∷ s ∷ []
once registers = registers

-- what the operation reads: its registers as written, each once, then the word
abbrev pub places_read : Op → (Reg → ℤ) → List Place
places_read op reg = map Register (once (used op)) ++ map Word (option_to_list (address_read op reg))

-- where an effect's result goes, if it has one
abbrev pub target_of : Option Reg → Effect → Option Place
target_of defined (Gives result) = option_map Register defined
target_of defined (Writes address value) = Some (Word address)
target_of defined _ = None

abbrev pub target : Executed → Option Place
target e = target_of (defined e.op) e.effect

-- what goes there, 0 where nothing does
abbrev pub sent : Effect → ℤ
sent (Gives result) = result
sent (Writes address value) = value
sent _ = pos 0

abbrev pub is_place : Place → Option Place → Bool
is_place place None = false
is_place place (Some other) = is_same place other

-- whether its result goes to the place
abbrev pub goes_to : Place → Executed → Bool
goes_to place e = is_place place (target e)
