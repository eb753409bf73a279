-- Which memory operations have to count: every two that touch one address when a block's operations are executed in
-- order.
use Rattle.std.specs.Prelude.{ℕ, ◌≡◌, ◌<◌, ◌||◌, true, List, length, Option, Some, None, ℤ, ◌+ℤ◌}
use Rattle.iloc_ops.specs.declared.op.Reg.{Reg}
use Rattle.iloc_ops.specs.declared.op.Op.{Op}
use Rattle.iloc_ops.specs.declared.op.Op.TheVariants.{Load, LoadAI, Store, StoreAI, Output}
use Rattle.iloc_meaning.specs.Address.{good_address}
use Rattle.iloc_meaning.specs.Arithmetic.{wrapped, constant}
use Rattle.iloc_meaning.specs.Trace.{op_at, register_after, before}
use Rattle.iloc_timed.specs.Kinds.{kind, is_store}
use Rattle.iloc_rules.specs.Delays.{Counts}

-- the good address whose word an operation reads or writes, if any, with `reg` as the values of the registers
abbrev pub touched : Op → (Reg → ℤ) → Option ℕ
touched (Load addr dest) reg = good_address (reg addr)
touched (LoadAI addr offset dest) reg = good_address (wrapped (reg addr +ℤ constant offset))
touched (Store value addr) reg = good_address (reg addr)
touched (StoreAI value addr offset) reg = good_address (wrapped (reg addr +ℤ constant offset))
touched (Output addr) reg = good_address (constant addr)
touched _ reg = None

-- the good address that operation i touches, if any, as the operations are executed in order on this memory, past faults
abbrev pub touched_at : List ℤ → List Op → ℕ → Option ℕ
touched_at memory ops i = touched (op_at ops i) (register_after (before memory ops i))

-- Two operations meet at the good address a: both touch it, and one of them is a store.
pub record Meet (memory : List ℤ) (ops : List Op) (i j a : ℕ) : Type 0 where
  pub first : touched_at memory ops i ≡ Some a
  pub second : touched_at memory ops j ≡ Some a
  pub store : (is_store (kind (op_at ops i)) || is_store (kind (op_at ops j))) ≡ true

-- `counts` is sound for `ops` on `memory`: every two that meet count.
pub record IsSoundOn (memory : List ℤ) (counts : Counts) (ops : List Op) : Type 0 where
  pub meet : (i j a : ℕ) → i < j → j < length ops → Meet memory ops i j a → counts i j ≡ true

-- it is sound: on every memory
abbrev pub IsSound : Counts → List Op → Type 0
IsSound counts ops = (memory : List ℤ) → IsSoundOn memory counts ops
