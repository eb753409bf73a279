use Rattle.iloc_trace.proofs.Common.{◌≡◌, ℕ, ◌++◌, take, pos, IsTrue, fold, Reg, is_good, word_at, value_of, Register, Word}
use Rattle.iloc_trace.specs.Places.{value_at}
use Rattle.iloc_trace.specs.Steps.Arrivals.{arrival_lines, arrived_in, due_now}
use Rattle.iloc_trace.proofs.machine.land_all.Given as goal

abbrev pub invariant-loop-arrival : goal.invariant-loop-arrival
invariant-loop-arrival l = record {
  first : l.memory.first ≡ l.initial.memory.first;
  lists : l.text.items ≡ l.initial.text.items ++ arrival_lines l.cycle
      (value_at (value_of l.initial.registers) (word_at l.initial.memory.words)) (due_now l.cycle (take l.arrival-index l.coming));
  registers : (r : Reg) → value_of l.registers r
      ≡ fold (arrived_in (Register r)) (value_of l.initial.registers r) (due_now l.cycle (take l.arrival-index l.coming));
  words : (a : ℕ) → IsTrue (is_good (pos a)) → word_at l.memory.words a
      ≡ fold (arrived_in (Word a)) (word_at l.initial.memory.words a) (due_now l.cycle (take l.arrival-index l.coming));
}
