-- Terms in registers, under way and done by an operation.
use Rattle.std.specs.Prelude.{ℕ, ◌≡◌, ◌≢◌, Bool, not, List, map, fold, unwrap_or, IsTrue, ℤ, pos, negsuc}
use Rattle.std.specs.List.{list_any}
use Rattle.std.specs.Ordering.{nat_cmp}
use Rattle.std.specs.BTreeMap.{get}
use Rattle.iloc_ops.specs.declared.op.Reg.{Reg}
use Rattle.iloc_meaning.specs.declared.effect.Effect.{Effect}
use Rattle.iloc_meaning.specs.declared.effect.Effect.TheVariants as E
use Rattle.iloc_meaning.specs.Address.{is_good, good_address}
use Rattle.iloc_meaning.specs.Effect.{at_address}
use Rattle.iloc_timed.specs.declared.wheel.Pending.{Pending}
use Rattle.iloc_timed.specs.declared.wheel.Pending.TheVariants as P
use Rattle.iloc_timed.specs.Steps.Pending.{landed_in_register, landed_in_word}
use Rattle.iloc_terms.specs.declared.symbols.registers.TermRegisters.{TermRegisters}
use Rattle.iloc_terms.specs.declared.symbols.sent.Sent.{Sent}
use Rattle.iloc_terms.specs.declared.symbols.sent.Sent.TheVariants.{Register, Word}
use Rattle.iloc_terms.specs.declared.symbols.action.Action.{Action}
use Rattle.iloc_terms.specs.declared.symbols.action.Action.TheVariants.{Gives, Loads, Stores, Emits, Nothing}
use Rattle.iloc_terms.specs.Steps.Terms.{Meaning}

-- the number of the term in register r
abbrev pub number_in : TermRegisters → Reg → ℕ
number_in registers r = unwrap_or (get nat_cmp registers.numbers r.0) registers.zero

-- the number that an address is; of a negative one, a number that is no good address
abbrev pub address_of : ℤ → ℕ
address_of (pos a) = a
address_of (negsuc n) = 1

-- the result that a term under way stands for
abbrev pub meant : Meaning → Sent → Pending
meant d (Register r value) = P.Register r (d.word value)
meant d (Word address value) = P.Word (address_of (d.word address)) (d.word value)

-- the effect that terms stand for
abbrev pub effect_of : Meaning → Action → Effect
effect_of d (Gives value) = E.Gives (d.word value)
effect_of d (Loads address value) = at_address (good_address (d.word address)) (λ a. E.Gives (d.word value))
effect_of d (Stores address value) = at_address (good_address (d.word address)) (λ a. E.Writes a (d.word value))
effect_of d (Emits address value) = at_address (good_address (d.word address)) (λ a. E.Emits (d.word value))
effect_of d Nothing = E.Nothing

-- whether one of `addresses` isn't good
abbrev pub some_bad : Meaning → List ℕ → Bool
some_bad d addresses = list_any (λ k. not (is_good (d.word k))) addresses

-- the register has the term, and each other keeps its own
pub record ChangesOnly (old new : TermRegisters) (r : Reg) (number : ℕ) : Type 0 where
  pub changed : number_in new r ≡ number
  pub others : (s : Reg) → s.0 ≢ r.0 → number_in new s ≡ number_in old s

-- what was sent has landed in registers and in a memory
pub record HasLanded (d : Meaning) (old : TermRegisters) (memory : ℕ) (due : List Sent) (new : TermRegisters) (after : ℕ)
    : Type 0 where
  pub registers : (r : Reg)
      → d.word (number_in new r) ≡ fold (landed_in_register r) (d.word (number_in old r)) (map (meant d) due)
  pub words : (a : ℕ) → IsTrue (is_good (pos a))
      → d.words after (pos a) ≡ fold (landed_in_word a) (d.words memory (pos a)) (map (meant d) due)
