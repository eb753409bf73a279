use Rattle.std.proofs.Common.{ℕ, ◌≡◌, pos, length, take, IsTrue}
use Rattle.std.specs.Prelude.{fold}
use Rattle.iloc_ops.specs.declared.op.Reg.{Reg}
use Rattle.iloc_meaning.specs.Address.{is_good}
use Rattle.iloc_meaning.specs.Memory.{word_at}
use Rattle.iloc_meaning.specs.Registers.{value_of}
use Rattle.iloc_timed.specs.Steps.Pending.{landed_in_register, landed_in_word}
use Rattle.iloc_timed.proofs.machine.land_all.Given as goal

abbrev pub invariant-loop-pending : goal.invariant-loop-pending
invariant-loop-pending l =
    (l.memory.first ≡ l.initial.memory.first)
    × ((r : Reg) → value_of l.registers r ≡ fold (landed_in_register r) (value_of l.initial.registers r)
    (take l.pending-index l.due))
    × ((a : ℕ) → IsTrue (is_good (pos a)) → word_at l.memory.words a
    ≡ fold (landed_in_word a) (word_at l.initial.memory.words a) (take l.pending-index l.due))
    × (length l.memory.words ≡ length l.initial.memory.words)
