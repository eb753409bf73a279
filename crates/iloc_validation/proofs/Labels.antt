-- What operations of one label have in common.
use Rattle.iloc_validation.proofs.Common.{◌≡◌, ℕ, List, map, get_or, ℤ, pos, refl, arith, fun_ext, used, with_registers, Op, Add, AddI, LoadAI, LoadI, Lshift, LshiftI, Mult, MultI, Nop, Rshift, RshiftI, StoreAI, Sub, SubI, Reg, effect, kind, label}
use Rattle.iloc_ops.specs.declared.op.Op.TheVariants.{Load, Store, Output}

pub kind-with_registers : (new : Reg → Reg) (own : Reg) (op : Op) → kind (with_registers new own op) ≡ kind op
kind-with_registers new own Nop = refl
kind-with_registers new own _ = refl

pub label-with_registers : (new : Reg → Reg) (own : Reg) (op : Op) → label (with_registers new own op) ≡ label op
label-with_registers new own Nop = refl
label-with_registers new own _ = refl

pub same_kind : (a b : Op) → label a ≡ label b → kind a ≡ kind b
same_kind a b same = grind (arith, kind-with_registers)

abbrev reg : ℕ → Reg
reg n = record { 0 = n }

-- the operation with the places of its registers in their stead
abbrev placed : Op → Op
placed (Load addr dest) = Load (reg 0) (reg 0)
placed (LoadI value dest) = LoadI value (reg 0)
placed (Store value addr) = Store (reg 0) (reg 1)
placed (Add left right dest) = Add (reg 0) (reg 1) (reg 0)
placed (Sub left right dest) = Sub (reg 0) (reg 1) (reg 0)
placed (Mult left right dest) = Mult (reg 0) (reg 1) (reg 0)
placed (Lshift left right dest) = Lshift (reg 0) (reg 1) (reg 0)
placed (Rshift left right dest) = Rshift (reg 0) (reg 1) (reg 0)
placed (Output addr) = Output addr
placed Nop = Nop
placed (AddI left value dest) = AddI (reg 0) value (reg 0)
placed (SubI left value dest) = SubI (reg 0) value (reg 0)
placed (MultI left value dest) = MultI (reg 0) value (reg 0)
placed (LshiftI left value dest) = LshiftI (reg 0) value (reg 0)
placed (RshiftI left value dest) = RshiftI (reg 0) value (reg 0)
placed (LoadAI addr offset dest) = LoadAI (reg 0) offset (reg 0)
placed (StoreAI value addr offset) = StoreAI (reg 0) (reg 1) offset

placed_label : (op : Op) → placed (label op) ≡ placed op
placed_label Nop = refl
placed_label _ = refl

-- the value in the place that a register stands for
abbrev in_place : List ℤ → Reg → ℤ
in_place values r = get_or values r.0 (pos 0)

effect_placed : (op : Op) (values : Reg → ℤ) (word : ℕ → ℤ)
    → effect op values word ≡ effect (placed op) (in_place (map values (used op))) word
effect_placed Nop values word = refl
effect_placed _ values word = refl

-- operations of one label do the same where they read the same
pub same_effect : (a b : Op) (values values' : Reg → ℤ) (word word' : ℕ → ℤ) → label a ≡ label b
    → map values (used a) ≡ map values' (used b) → ((x : ℕ) → word x ≡ word' x)
    → effect a values word ≡ effect b values' word'
same_effect a b values values' word word' same reads words = grind (arith, effect_placed, fun_ext, placed_label)
