-- A schedule in mid-run against the log of what it has issued.
use Rattle.std.specs.Prelude.{ℕ, ◌+◌, ◌≡◌, ◌<◌, nat_lt, Bool, true, false, List, [], ◌∷◌, length, filter, IsTrue, IsFalse, ℤ, pos}
use Rattle.iloc_ops.specs.declared.op.Reg.{Reg}
use Rattle.iloc_ops.specs.declared.op.Op.{Op}
use Rattle.iloc_ops.specs.Registers.{defined}
use Rattle.iloc_meaning.specs.Address.{is_good}
use Rattle.iloc_meaning.specs.Memory.{WORDS, word_at}
use Rattle.iloc_meaning.specs.Registers.{value_of}
use Rattle.iloc_meaning.specs.Effect.{effect}
use Rattle.iloc_meaning.specs.Trace.{Executed}
use Rattle.iloc_meaning.specs.Outcome.{is_fault, has_fault, emitted}
use Rattle.iloc_meaning.specs.Results.{GoesTo}
use Rattle.iloc_timed.specs.declared.machine.Machine.{Machine}
use Rattle.iloc_timed.specs.Limits.{LONGEST_LATENCY}
use Rattle.iloc_timed.specs.Timed.{Issued, register_in, word_in, executed_in}
use Rattle.iloc_timed.specs.Steps.Wheel.{AreUnderWay}

-- what was due before cycle c
abbrev pub landed : ℕ → List Issued → List Issued
landed c log = filter (λ e. nat_lt e.due c) log

-- no fault, and a result only where a register is defined
pub record Lands (e : Executed) : Type 0 where
  pub no_fault : IsFalse (is_fault e.effect)
  pub goes : GoesTo (defined e.op) e.effect

-- each does, and is due before cycle c
abbrev pub AllLand : ℕ → List Issued → Type 0
AllLand c [] = Unit {0}
AllLand c (e ∷ earlier) = (e.due < c) × Lands e.executed × AllLand c earlier

-- what is due before cycle c is written, and the rest is under way
pub record Follows (memory : List ℤ) (c : ℕ) (log : List Issued) (machine : Machine) : Type 0 where
  pub size : length memory ≡ WORDS
  pub same_size : length machine.state.memory.words ≡ WORDS
  pub registers : (r : Reg) → value_of machine.state.registers r ≡ register_in (landed c log) r
  pub words : (a : ℕ) → IsTrue (is_good (pos a)) → word_at machine.state.memory.words a ≡ word_in memory (landed c log) a
  pub under_way : AreUnderWay c log machine.wheel
  pub all_land : AllLand (c + LONGEST_LATENCY) log
  pub outputs : machine.state.outputs.items ≡ emitted (executed_in log)

-- the operation, due at this cycle: it reads what has landed before cycle c
abbrev pub then_issued : List ℤ → ℕ → ℕ → Op → List Issued → List Issued
then_issued memory c due op log = record {
  due = due;
  executed = record { op = op; effect = effect op (register_in (landed c log)) (word_in memory (landed c log)) };
} ∷ log

-- after an issue: the run goes on, or there was a fault
abbrev pub After : Bool → List ℤ → ℕ → List Issued → Machine → Type 0
After true memory c log machine = Follows memory c log machine
After false memory c log machine = has_fault (executed_in log) ≡ true
