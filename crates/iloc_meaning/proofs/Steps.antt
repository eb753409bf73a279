-- One more operation of a block in mid-run.
use Rattle.std.proofs.Common.{◌≡◌, ℕ, ◌/◌, List, [], ◌∷◌, ◌++◌, set, Some, Vec, Global, ℤ, arith, append-nil}
use Rattle.std.proofs.lemmas.Bool.Decides.{nat_tests}
use Rattle.iloc_ops.specs.declared.op.Reg.{Reg}
use Rattle.iloc_ops.specs.declared.op.Op.{Op}
use Rattle.iloc_ops.specs.Registers.{defined}
use Rattle.iloc_meaning.specs.declared.machine_state.MachineState.{MachineState}
use Rattle.iloc_meaning.specs.declared.effect.Effect.TheVariants.{Gives, Writes, Emits}
use Rattle.iloc_meaning.specs.Memory.{word_at, ScratchView}
use Rattle.iloc_meaning.specs.Effect.{effect}
use Rattle.iloc_meaning.specs.Trace.{Executed, register_after, word_after, then_executed}
use Rattle.iloc_meaning.specs.Registers.{Values, value_of, ChangesOnly}
use Rattle.iloc_meaning.specs.MachineState.{Follows}
use Rattle.iloc_meaning.proofs.MemoryWords.{word_at-with_words, set-with_words}
use Rattle.iloc_meaning.proofs.Effects.{effect_same, defined-no_result, writes_well-effect}

-- the trace's registers and words give an operation the effect that the state's give it
pub effect_after : (memory : List ℤ) (trace : List Executed) (state : MachineState) (op : Op)
    → Follows memory trace state → effect op (register_after trace) (word_after memory trace)
    ≡ effect op (value_of state.registers) (word_at state.memory.words)
effect_after memory trace state op follows = grind (arith, effect_same, word_at-with_words)

-- an operation that gives a result
pub after_result : (memory : List ℤ) (trace : List Executed) (state : MachineState) (op : Op) (result : ℤ) (r : Reg)
    (new : Values) → Follows memory trace state
    → Gives result ≡ effect op (value_of state.registers) (word_at state.memory.words) → Some r ≡ defined op
    → ChangesOnly state.registers new r result
    → Follows memory (then_executed memory op trace) (record state { registers = new })
after_result memory trace state op result r new follows is register changes =
    grind (arith, effect_after, nat_tests, append-nil)

-- an operation that writes
pub after_write : (memory : List ℤ) (trace : List Executed) (state : MachineState) (op : Op) (a : ℕ) (w : ℤ)
    (new : ScratchView) → Follows memory trace state
    → Writes a w ≡ effect op (value_of state.registers) (word_at state.memory.words)
    → new.first ≡ state.memory.first → new.words ≡ set state.memory.words (a / 4) w
    → Follows memory (then_executed memory op trace) (record state { memory = new })
after_write memory trace state op a w new follows is kept written =
    grind (arith, effect_after, defined-no_result, set-with_words, writes_well-effect, nat_tests, append-nil)

-- an operation that emits
pub after_output : (memory : List ℤ) (trace : List Executed) (state : MachineState) (op : Op) (w : ℤ) (new : Vec ℤ Global)
    → Follows memory trace state → Emits w ≡ effect op (value_of state.registers) (word_at state.memory.words)
    → new.items ≡ state.outputs.items ++ w ∷ []
    → Follows memory (then_executed memory op trace) (record state { outputs = new })
after_output memory trace state op w new follows is pushed = grind (arith, effect_after, defined-no_result)
