-- What a run leaves, and a block in mid-run against the trace of what it has executed.
use Rattle.std.specs.Prelude.{◌≡◌, Bool, true, false, if◌then◌else◌, List, length, ℤ}
use Rattle.iloc_ops.specs.declared.op.Reg.{Reg}
use Rattle.iloc_meaning.specs.declared.machine_state.MachineState.{MachineState}
use Rattle.iloc_meaning.specs.declared.outcome.Outcome.{Outcome}
use Rattle.iloc_meaning.specs.declared.outcome.Outcome.TheVariants.{Finished, Fault}
use Rattle.iloc_meaning.specs.Memory.{WORDS, with_words}
use Rattle.iloc_meaning.specs.Registers.{value_of}
use Rattle.iloc_meaning.specs.Trace.{Executed, register_after, word_after}
use Rattle.iloc_meaning.specs.Outcome.{has_fault, emitted}

-- the outcome that is left, whether the run has come to its end or not
abbrev pub leaves : Bool → MachineState → Outcome
leaves finished state = if finished then Finished state.outputs.items state.memory.words else Fault

-- the state is what the trace leads to from the memory that was passed in, and nothing faulted
pub record Follows (memory : List ℤ) (trace : List Executed) (state : MachineState) : Type 0 where
  pub size : length memory ≡ WORDS
  pub first : state.memory.first ≡ memory
  pub registers : (r : Reg) → value_of state.registers r ≡ register_after trace r
  pub words : state.memory.words ≡ with_words memory (word_after memory trace)
  pub outputs : state.outputs.items ≡ emitted trace
  pub no_fault : has_fault trace ≡ false

-- after one more operation: the run goes on, or there was a fault
abbrev pub After : Bool → List ℤ → List Executed → MachineState → Type 0
After true memory trace state = Follows memory trace state
After false memory trace state = has_fault trace ≡ true
