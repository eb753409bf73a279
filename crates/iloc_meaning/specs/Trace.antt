-- What the operations of a block do, one after another. A trace has what was executed so far, the latest first.
use Rattle.std.specs.Prelude.{ℕ, zero, suc, ◌==◌, Bool, false, List, [], ◌∷◌, find, slice_index_or, Option, Some, None, ℤ, pos}
use Rattle.iloc_ops.specs.declared.op.Reg.{Reg}
use Rattle.iloc_ops.specs.declared.op.Op.{Op}
use Rattle.iloc_ops.specs.declared.op.Op.TheVariants.{Nop}
use Rattle.iloc_ops.specs.Registers.{defined}
use Rattle.iloc_meaning.specs.declared.effect.Effect.{Effect}
use Rattle.iloc_meaning.specs.declared.effect.Effect.TheVariants.{Gives, Writes}
use Rattle.iloc_meaning.specs.Memory.{word_at}
use Rattle.iloc_meaning.specs.Effect.{effect}

-- an operation with its effect
pub record Executed : Type 0 where
  pub op : Op
  pub effect : Effect

-- the result of an effect, 0 where it gives none
abbrev pub result_of : Effect → ℤ
result_of (Gives result) = result
result_of _ = pos 0

-- the word that an effect writes, 0 where it writes none
abbrev pub written_by : Effect → ℤ
written_by (Writes address word) = word
written_by _ = pos 0

-- whether it is register r
abbrev pub is_register : Reg → Option Reg → Bool
is_register r None = false
is_register r (Some s) = r.0 == s.0

-- whether the operation defines register r
abbrev pub defines : Reg → Executed → Bool
defines r e = is_register r (defined e.op)

-- whether the effect is a write to the address a
abbrev pub is_write_to : ℕ → Effect → Bool
is_write_to a (Writes address word) = a == address
is_write_to a _ = false

-- whether the operation wrote to the address a
abbrev pub writes_to : ℕ → Executed → Bool
writes_to a e = is_write_to a e.effect

-- what an operation gave, 0 where there was none
abbrev pub result_or_zero : Option Executed → ℤ
result_or_zero None = pos 0
result_or_zero (Some e) = result_of e.effect

-- what an operation wrote, `word` where there was none
abbrev pub written_or : ℤ → Option Executed → ℤ
written_or word None = word
written_or word (Some e) = written_by e.effect

-- the value of register r: the result of the last operation that defines it, else 0
abbrev pub register_after : List Executed → Reg → ℤ
register_after trace r = result_or_zero (find (defines r) trace)

-- the word at address a: the last that was written to it, else that of the memory handed in
abbrev pub word_after : List ℤ → List Executed → ℕ → ℤ
word_after memory trace a = written_or (word_at memory a) (find (writes_to a) trace)

-- the trace with one more operation, which reads what the trace leaves
abbrev pub then_executed : List ℤ → Op → List Executed → List Executed
then_executed memory op trace =
    record { op = op; effect = effect op (register_after trace) (word_after memory trace) } ∷ trace

-- operation i
abbrev pub op_at : List Op → ℕ → Op
op_at ops i = slice_index_or ops i Nop

-- the trace before operation i
abbrev pub before : List ℤ → List Op → ℕ → List Executed
before memory ops zero = []
before memory ops (suc i) = then_executed memory (op_at ops i) (before memory ops i)
