-- The table of forms: the opcode and the operands of each operation, and the operation of an opcode and numbers.
use Rattle.std.specs.Prelude.{ℕ, List, [], ◌∷◌, map, codes, get_or}
use Rattle.iloc_ops.specs.declared.op.Reg.{Reg}
use Rattle.iloc_ops.specs.declared.op.Op.{Op}
use Rattle.iloc_ops.specs.declared.op.Op.TheVariants.{Load, LoadI, Store, Add, Sub, Mult, Lshift, Rshift, Output, Nop, AddI, SubI, MultI, LshiftI, RshiftI, LoadAI, StoreAI}
use Rattle.iloc_ops.specs.declared.forms.Opcode.{Opcode}
use Rattle.iloc_ops.specs.declared.forms.Opcode.TheVariants as O

-- what precedes an operand
pub data Lead : Type 0 where
  space : Lead
  comma : Lead
  arrow : Lead

-- what is written in its place, by its role: a register that is used, the one that is defined, or a constant
pub data Value : Type 0 where
  Use : Reg → Value
  Definition : Reg → Value
  Constant : ℕ → Value

pub record Operand : Type 0 where
  pub lead : Lead
  pub value : Value

infixr 70 ◌▹◌
abbrev pub ◌▹◌ : Lead → Value → Operand
lead ▹ value = record { lead = lead; value = value }

-- the opcode and the operands
abbrev pub form : Op → Opcode × List Operand
form (Load addr dest) = (O.Load, space ▹ Use addr ∷ arrow ▹ Definition dest ∷ [])
form (LoadI value dest) = (O.LoadI, space ▹ Constant value ∷ arrow ▹ Definition dest ∷ [])
form (Store value addr) = (O.Store, space ▹ Use value ∷ arrow ▹ Use addr ∷ [])
form (Add left right dest) = (O.Add, space ▹ Use left ∷ comma ▹ Use right ∷ arrow ▹ Definition dest ∷ [])
form (Sub left right dest) = (O.Sub, space ▹ Use left ∷ comma ▹ Use right ∷ arrow ▹ Definition dest ∷ [])
form (Mult left right dest) = (O.Mult, space ▹ Use left ∷ comma ▹ Use right ∷ arrow ▹ Definition dest ∷ [])
form (Lshift left right dest) = (O.Lshift, space ▹ Use left ∷ comma ▹ Use right ∷ arrow ▹ Definition dest ∷ [])
form (Rshift left right dest) = (O.Rshift, space ▹ Use left ∷ comma ▹ Use right ∷ arrow ▹ Definition dest ∷ [])
form (Output addr) = (O.Output, space ▹ Constant addr ∷ [])
form Nop = (O.Nop, [])
form (AddI left value dest) = (O.AddI, space ▹ Use left ∷ comma ▹ Constant value ∷ arrow ▹ Definition dest ∷ [])
form (SubI left value dest) = (O.SubI, space ▹ Use left ∷ comma ▹ Constant value ∷ arrow ▹ Definition dest ∷ [])
form (MultI left value dest) = (O.MultI, space ▹ Use left ∷ comma ▹ Constant value ∷ arrow ▹ Definition dest ∷ [])
form (LshiftI left value dest) = (O.LshiftI, space ▹ Use left ∷ comma ▹ Constant value ∷ arrow ▹ Definition dest ∷ [])
form (RshiftI left value dest) = (O.RshiftI, space ▹ Use left ∷ comma ▹ Constant value ∷ arrow ▹ Definition dest ∷ [])
form (LoadAI addr offset dest) = (O.LoadAI, space ▹ Use addr ∷ comma ▹ Constant offset ∷ arrow ▹ Definition dest ∷ [])
form (StoreAI value addr offset) = (O.StoreAI, space ▹ Use value ∷ arrow ▹ Use addr ∷ comma ▹ Constant offset ∷ [])

abbrev pub opcode : Op → Opcode
opcode op = (form op).0

abbrev pub operands : Op → List Operand
operands op = (form op).1

-- how an opcode is written
abbrev pub opcode_text : Opcode → List ℕ
opcode_text O.Load = codes "load"
opcode_text O.LoadI = codes "loadI"
opcode_text O.Store = codes "store"
opcode_text O.Add = codes "add"
opcode_text O.Sub = codes "sub"
opcode_text O.Mult = codes "mult"
opcode_text O.Lshift = codes "lshift"
opcode_text O.Rshift = codes "rshift"
opcode_text O.Output = codes "output"
opcode_text O.Nop = codes "nop"
opcode_text O.AddI = codes "addI"
opcode_text O.SubI = codes "subI"
opcode_text O.MultI = codes "multI"
opcode_text O.LshiftI = codes "lshiftI"
opcode_text O.RshiftI = codes "rshiftI"
opcode_text O.LoadAI = codes "loadAI"
opcode_text O.StoreAI = codes "storeAI"

-- all of them, in the order in which a word is looked up
abbrev pub opcodes : List Opcode
opcodes = O.LoadI ∷ O.Load ∷ O.Store ∷ O.Add ∷ O.Sub ∷ O.Mult ∷ O.Lshift ∷ O.Rshift ∷ O.Output ∷ O.Nop
    ∷ O.AddI ∷ O.SubI ∷ O.MultI ∷ O.LshiftI ∷ O.RshiftI ∷ O.LoadAI ∷ O.StoreAI ∷ []

-- the number that is written there, a register's or the constant itself
abbrev pub number_in : Value → ℕ
number_in (Use r) = r.0
number_in (Definition r) = r.0
number_in (Constant n) = n

abbrev pub number_of : Operand → ℕ
number_of operand = number_in operand.value

-- the numbers of an operation, its registers' among them
abbrev pub numbers : Op → List ℕ
numbers op = map number_of (operands op)

-- number k, or 0 where there is none, and the register with it
abbrev number_at : List ℕ → ℕ → ℕ
number_at ns k = get_or ns k 0

abbrev register_at : List ℕ → ℕ → Reg
register_at ns k = record { 0 = number_at ns k }

-- the operation with an opcode and the numbers `ns`, left to right
abbrev pub op_of : Opcode → List ℕ → Op
op_of O.Load ns = Load (register_at ns 0) (register_at ns 1)
op_of O.LoadI ns = LoadI (number_at ns 0) (register_at ns 1)
op_of O.Store ns = Store (register_at ns 0) (register_at ns 1)
op_of O.Add ns = Add (register_at ns 0) (register_at ns 1) (register_at ns 2)
op_of O.Sub ns = Sub (register_at ns 0) (register_at ns 1) (register_at ns 2)
op_of O.Mult ns = Mult (register_at ns 0) (register_at ns 1) (register_at ns 2)
op_of O.Lshift ns = Lshift (register_at ns 0) (register_at ns 1) (register_at ns 2)
op_of O.Rshift ns = Rshift (register_at ns 0) (register_at ns 1) (register_at ns 2)
op_of O.Output ns = Output (number_at ns 0)
op_of O.Nop ns = Nop
op_of O.AddI ns = AddI (register_at ns 0) (number_at ns 1) (register_at ns 2)
op_of O.SubI ns = SubI (register_at ns 0) (number_at ns 1) (register_at ns 2)
op_of O.MultI ns = MultI (register_at ns 0) (number_at ns 1) (register_at ns 2)
op_of O.LshiftI ns = LshiftI (register_at ns 0) (number_at ns 1) (register_at ns 2)
op_of O.RshiftI ns = RshiftI (register_at ns 0) (number_at ns 1) (register_at ns 2)
op_of O.LoadAI ns = LoadAI (register_at ns 0) (number_at ns 1) (register_at ns 2)
op_of O.StoreAI ns = StoreAI (register_at ns 0) (register_at ns 1) (number_at ns 2)
