-- The run of a block from its start to its end.
use Rattle.std.proofs.Common.{◌≡◌, ℕ, zero, suc, ◌+◌, ◌*◌, ◌/◌, ◌<◌, true, List, [], length, get_or, ℤ, pos, arith, refl, ap, sym, ◌∙◌, add-one, add-zero, add-suc, ◌-◌}
use Rattle.std.proofs.lemmas.List.FromFn.{fill_by_all}
use Rattle.std.proofs.lemmas.List.{get_or_default}
use Rattle.std.proofs.lemmas.Bool.{or_right}
use Rattle.iloc_meaning.specs.Memory.{WORDS, word_at, with_words}
use Rattle.iloc_ops.specs.declared.op.Reg.{Reg}
use Rattle.iloc_ops.specs.declared.op.Op.{Op}
use Rattle.iloc_meaning.specs.declared.machine_state.MachineState.{MachineState}
use Rattle.iloc_meaning.specs.declared.outcome.Outcome.TheVariants.{Fault}
use Rattle.iloc_meaning.specs.Trace.{then_executed, before}
use Rattle.iloc_meaning.specs.Outcome.{has_fault, outcome}
use Rattle.iloc_meaning.specs.Registers.{value_of}
use Rattle.iloc_meaning.specs.MachineState.{Follows}

pub with_words_same : (memory : List ℤ) → memory ≡ with_words memory (word_at memory)
with_words_same memory =
    fill_by_all (λ k. word_at memory (4 * k)) memory (length memory) (pos 0) refl
    (λ k below. let same : 4 * k / 4 ≡ k = omega arith in ap (λ j. get_or memory j (pos 0)) (sym same))

-- a block begins with all registers 0, the memory handed in and no output
pub begins : (state : MachineState) (memory : List ℤ) → length memory ≡ WORDS
    → ((r : Reg) → value_of state.registers r ≡ pos 0) → state.memory ≡ record { first = memory; words = memory }
    → state.outputs.items ≡ [] → Follows memory [] state
begins state memory size registers words outputs = record {
  size = size;
  first = ap (λ m. m.first) words;
  registers = registers;
  words = ap (λ m. m.words) words ∙ with_words_same memory;
  outputs = outputs;
  no_fault = refl;
}

-- the trace with the operation that comes next
pub next : (memory : List ℤ) (ops items : List Op) (i : ℕ) (other : Op) → items ≡ ops → i < length items
    → before memory ops (i + 1) ≡ then_executed memory (get_or items i other) (before memory ops i)
next memory ops items i other same within = grind (arith, get_or_default, add-one)

-- a run that takes the next operation goes on
pub goes_on : (memory : List ℤ) (ops items : List Op) (i : ℕ) (other : Op) (state : MachineState) → items ≡ ops
    → i < length items → Follows memory (then_executed memory (get_or items i other) (before memory ops i)) state
    → Follows memory (before memory ops (i + 1)) state
goes_on memory ops items i other state same within follows = rw (next memory ops items i other same within) follows

-- a fault stays
pub fault_stays : (memory : List ℤ) (ops : List Op) (i more : ℕ) → has_fault (before memory ops i) ≡ true
    → has_fault (before memory ops (i + more)) ≡ true
fault_stays memory ops i zero fault = rw add-zero fault
fault_stays memory ops i (suc more) fault = rw add-suc (or_right _ _ (fault_stays memory ops i more fault))

-- a run that stops at the next operation has the outcome of a fault
pub stops : (memory : List ℤ) (ops items : List Op) (i : ℕ) (other : Op) → items ≡ ops → i < length items
    → has_fault (then_executed memory (get_or items i other) (before memory ops i)) ≡ true → Fault ≡ outcome ops memory
stops memory ops items i other same within fault =
    let there : i < length ops = rw same at within in
    let rest : i + 1 + (length ops - (i + 1)) ≡ length ops = omega arith in
    let here : has_fault (before memory ops (i + 1)) ≡ true = rw (next memory ops items i other same within) fault in
    let faulted : has_fault (before memory ops (length ops)) ≡ true =
    rw rest at (fault_stays memory ops (i + 1) (length ops - (i + 1)) here) in
    rw faulted refl
