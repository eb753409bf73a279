-- A block whose registers are renamed, so that each is defined once.
use Rattle.std.specs.Prelude.{ℕ, zero, suc, ◌+◌, ◌≡◌, ◌<◌, ◌==◌, not, Bool, true, false, if◌then◌else◌, List, [], ◌∷◌, ◌++◌, length, map, filter, Option, Some, None, Contains}
use Rattle.std.specs.List.{list_any, range_with_len}
use Rattle.iloc_ops.specs.declared.op.Reg.{Reg}
use Rattle.iloc_ops.specs.declared.op.Op.{Op}
use Rattle.iloc_ops.specs.declared.op.Op.TheVariants.{Nop}
use Rattle.iloc_ops.specs.Registers.{used, defined, with_registers}
use Rattle.iloc_meaning.specs.Trace.{op_at, is_register}

-- where a used value comes from: a register as the block starts, or the result of an operation
pub data Source : Type 0 where
  Start : (reg : Reg) → Source
  Result : (op : ℕ) → Source

-- whether two sources are one
abbrev pub is_source : Source → Source → Bool
is_source (Start r) (Start s) = r.0 == s.0
is_source (Result i) (Result j) = i == j
is_source _ _ = false

-- the source of register r before operation i: the latest earlier operation that defines it, or else its start
abbrev pub source : List Op → ℕ → Reg → Source
source ops zero r = Start r
source ops (suc i) r = if is_register r (defined (op_at ops i)) then Result i else source ops i r

-- operation i as a source of its own, if it defines a register
abbrev pub own_source : ℕ → Option Reg → List Source
own_source i None = []
own_source i (Some r) = Result i ∷ []

-- the sources of operation i, left to right, then itself if it defines a register
abbrev pub mentions : List Op → ℕ → List Source
mentions ops i = map (source ops i) (used (op_at ops i)) ++ own_source i (defined (op_at ops i))

-- the mentions of the operations before operation i
abbrev pub mentions_before : List Op → ℕ → List Source
mentions_before ops zero = []
mentions_before ops (suc i) = mentions_before ops i ++ mentions ops i

-- a list without what already stood
abbrev pub struck : List Source → List Source → List Source
struck stood [] = []
struck stood (s ∷ rest) = if list_any (is_source s) stood then struck stood rest else s ∷ struck (s ∷ stood) rest

-- the sources of a block in the order of their numbers: of all mentions each where it first stands
abbrev pub numbering : List Op → List Source
numbering ops = struck [] (mentions_before ops (length ops))

-- the place of a source in a numbering
abbrev pub place_of : List Source → Source → ℕ
place_of [] s = 0
place_of (x ∷ rest) s = if is_source s x then 0 else place_of rest s + 1

-- the register whose number is that place
abbrev pub name_of : List Source → Source → Reg
name_of sources s = record { 0 = place_of sources s }

-- operation i: each use is named for its source, its definition for itself
abbrev pub renamed_op : List Op → List Source → ℕ → Op
renamed_op ops sources i =
    with_registers (λ r. name_of sources (source ops i r)) (name_of sources (Result i)) (op_at ops i)

-- all operations, renamed by a numbering
abbrev pub renamed_by : List Op → List Source → List Op
renamed_by ops sources = map (renamed_op ops sources) (range_with_len 0 (length ops))

-- whether it is `nop`
abbrev pub is_nop : Op → Bool
is_nop Nop = true
is_nop _ = false

-- a block without its `nop`s
abbrev pub without_nops : List Op → List Op
without_nops ops = filter (λ op. not (is_nop op)) ops

-- the block's operations, renamed
abbrev pub renamed : List Op → List Op
renamed ops = renamed_by (without_nops ops) (numbering (without_nops ops))

-- no `nop`, no register is defined twice, and none is used at or before its definition
pub record IsRenamed (ops : List Op) : Type 0 where
  pub no_nop : (i : ℕ) → i < length ops → is_nop (op_at ops i) ≡ false
  pub once : (i j : ℕ) (r : Reg) → defined (op_at ops i) ≡ Some r → defined (op_at ops j) ≡ Some r → i ≡ j
  pub defined_before : (i j : ℕ) (r : Reg) → Contains (used (op_at ops i)) r → defined (op_at ops j) ≡ Some r → j < i
