-- A schedule in mid-run, with terms, against the log of what it has issued on one memory.
use Rattle.std.specs.Prelude.{ℕ, ◌+◌, ◌%◌, ◌≡◌, ◌⊎◌, true, false, List, [], ◌∷◌, ◌++◌, map, slice_set, Option, Some, None, option_map, IsTrue, ℤ, pos}
use Rattle.iloc_ops.specs.declared.op.Reg.{Reg}
use Rattle.iloc_meaning.specs.Address.{is_good}
use Rattle.iloc_meaning.specs.Outcome.{has_fault, emitted}
use Rattle.iloc_timed.specs.Timed.{Issued, register_in, word_in, executed_in}
use Rattle.iloc_timed.specs.Wheel.{list_at}
use Rattle.iloc_timed.specs.Steps.Wheel.{AreUnderWay}
use Rattle.iloc_timed.specs.Steps.Machine.{landed, AllLand}
use Rattle.iloc_terms.specs.declared.symbols.sent.Sent.{Sent}
use Rattle.iloc_terms.specs.declared.symbols.sent.Sent.TheVariants as S
use Rattle.iloc_terms.specs.declared.symbols.action.Action.{Action}
use Rattle.iloc_terms.specs.declared.symbols.action.Action.TheVariants.{Gives, Loads, Stores, Emits, Nothing}
use Rattle.iloc_terms.specs.declared.symbols.Symbols.{Symbols}
use Rattle.iloc_terms.specs.Steps.Terms.{Meaning}
use Rattle.iloc_terms.specs.Steps.Symbols.{number_in, meant, some_bad}

-- no address was bad, and the terms stand for what the log says
pub record Tracks (memory : List ℤ) (d : Meaning) (c : ℕ) (log : List Issued) (it : Symbols) : Type 0 where
  pub good : some_bad d it.addresses.items ≡ false
  pub registers : (r : Reg) → d.word (number_in it.registers r) ≡ register_in (landed c log) r
  pub words : (a : ℕ) → IsTrue (is_good (pos a)) → d.words it.memory (pos a) ≡ word_in memory (landed c log) a
  pub under_way : AreUnderWay c log (map (map (meant d)) it.wheel)
  pub all_land : AllLand (c + 16) log
  pub outputs : map d.word it.outputs.items ≡ emitted (executed_in log)

-- an address was bad, and the log has a fault
pub record Faulted (d : Meaning) (log : List Issued) (it : Symbols) : Type 0 where
  pub bad : some_bad d it.addresses.items ≡ true
  pub fault : has_fault (executed_in log) ≡ true

abbrev pub Keeps : List ℤ → Meaning → ℕ → List Issued → Symbols → Type 0
Keeps memory d c log it = Faulted d log it ⊎ Tracks memory d c log it

-- the address at which an action is done, if it is at one
abbrev pub address_in : Action → List ℕ
address_in (Gives value) = []
address_in (Loads address value) = address ∷ []
address_in (Stores address value) = address ∷ []
address_in (Emits address value) = address ∷ []
address_in Nothing = []

-- the term that an action emits, if it emits one
abbrev pub emitted_in : Action → List ℕ
emitted_in (Gives value) = []
emitted_in (Loads address value) = []
emitted_in (Stores address value) = []
emitted_in (Emits address value) = value ∷ []
emitted_in Nothing = []

-- what an action sends on its way, where the operation defines this register
abbrev pub sent_in : Option Reg → Action → Option Sent
sent_in register (Gives value) = option_map (λ r. S.Register r value) register
sent_in register (Loads address value) = option_map (λ r. S.Register r value) register
sent_in register (Stores address value) = Some (S.Word address value)
sent_in register (Emits address value) = None
sent_in register Nothing = None

-- the lists with something sent that is due at cycle c, if anything is
abbrev pub with_sent : ℕ → Option Sent → List (List Sent) → List (List Sent)
with_sent c None lists = lists
with_sent c (Some sent) lists = slice_set lists (c % 16) (list_at lists c ++ sent ∷ [])

-- the action is recorded
pub record Records (register : Option Reg) (action : Action) (due : ℕ) (old new : Symbols) : Type 0 where
  pub registers : new.registers ≡ old.registers
  pub memory : new.memory ≡ old.memory
  pub outputs : new.outputs.items ≡ old.outputs.items ++ emitted_in action
  pub addresses : new.addresses.items ≡ old.addresses.items ++ address_in action
  pub wheel : new.wheel ≡ with_sent due (sent_in register action) old.wheel

-- everything has landed: the terms stand for what comes of the log
pub record Stands (memory : List ℤ) (d : Meaning) (log : List Issued) (it : Symbols) : Type 0 where
  pub good : some_bad d it.addresses.items ≡ false
  pub no_fault : has_fault (executed_in log) ≡ false
  pub words : (a : ℕ) → IsTrue (is_good (pos a)) → d.words it.memory (pos a) ≡ word_in memory log a
  pub outputs : map d.word it.outputs.items ≡ emitted (executed_in log)

abbrev pub Ends : List ℤ → Meaning → List Issued → Symbols → Type 0
Ends memory d log it = Faulted d log it ⊎ Stands memory d log it
