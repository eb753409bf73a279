-- Addresses that are known to differ: one base with two constants.
use Rattle.std.specs.Prelude.{ℕ, zero, suc, ◌==◌, ◌&&◌, ◌||◌, not, Bool, false, if◌then◌else◌, List, Option, Some, None, ℤ, pos, ◌+ℤ◌, ◌-ℤ◌, ◌*ℤ◌}
use Rattle.std.specs.Ordering.{int_eq}
use Rattle.iloc_ops.specs.declared.op.Reg.{Reg}
use Rattle.iloc_ops.specs.declared.op.Op.{Op}
use Rattle.iloc_ops.specs.declared.op.Op.TheVariants.{Load, LoadI, Store, Add, Sub, Mult, Lshift, Rshift, Output, AddI, SubI, MultI, LshiftI, RshiftI, LoadAI, StoreAI}
use Rattle.iloc_ops.specs.Registers.{defined}
use Rattle.iloc_meaning.specs.Arithmetic.{wrapped, constant, shifted_left, shifted_right}
use Rattle.iloc_meaning.specs.Trace.{op_at, is_register}
use Rattle.iloc_timed.specs.Kinds.{kind, is_store}
use Rattle.iloc_rules.specs.declared.word.Word.{Word}
use Rattle.iloc_rules.specs.declared.word.Word.TheVariants.{Known, Based}
use Rattle.iloc_rules.specs.Delays.{Counts}

-- the result of operation i, of which nothing else is known
abbrev pub own : ℕ → Word
own i = Based i (pos 0)

-- a word with a constant added
abbrev pub plus : Word → ℤ → Word
plus (Known c) d = Known (wrapped (c +ℤ d))
plus (Based b c) d = Based b (wrapped (c +ℤ d))

-- the sum of two words, as the result of operation i
abbrev pub sum : ℕ → Word → Word → Word
sum i v (Known d) = plus v d
sum i (Known c) w = plus w c
sum i (Based a c) (Based b d) = own i

-- the difference
abbrev pub difference : ℕ → Word → Word → Word
difference i (Known c) (Known d) = Known (wrapped (c -ℤ d))
difference i (Based b c) (Known d) = Based b (wrapped (c -ℤ d))
difference i (Known c) (Based b d) = own i
difference i (Based a c) (Based b d) = if a == b then Known (wrapped (c -ℤ d)) else own i

-- what f makes of them, if both are known
abbrev pub folded : (ℤ → ℤ → ℤ) → ℕ → Word → Word → Word
folded f i (Known c) (Known d) = Known (f c d)
folded f i _ _ = own i

-- what is known of the result of operation i where this is known of the registers
abbrev pub result_word : ℕ → Op → (Reg → Word) → Word
result_word i (LoadI value dest) known = Known (constant value)
result_word i (Add left right dest) known = sum i (known left) (known right)
result_word i (Sub left right dest) known = difference i (known left) (known right)
result_word i (Mult left right dest) known = folded (λ c d. wrapped (c *ℤ d)) i (known left) (known right)
result_word i (Lshift left right dest) known = folded shifted_left i (known left) (known right)
result_word i (Rshift left right dest) known = folded shifted_right i (known left) (known right)
result_word i (AddI left value dest) known = sum i (known left) (Known (constant value))
result_word i (SubI left value dest) known = difference i (known left) (Known (constant value))
result_word i (MultI left value dest) known =
    folded (λ c d. wrapped (c *ℤ d)) i (known left) (Known (constant value))
result_word i (LshiftI left value dest) known = folded shifted_left i (known left) (Known (constant value))
result_word i (RshiftI left value dest) known = folded shifted_right i (known left) (Known (constant value))
result_word i _ known = own i

-- what is known of register r before operation i: where no operation defined it, that it is 0
abbrev pub known_before : List Op → ℕ → Reg → Word
known_before ops zero r = Known (pos 0)
known_before ops (suc i) r =
    if is_register r (defined (op_at ops i)) then result_word i (op_at ops i) (known_before ops i)
    else known_before ops i r

-- what is known of the address of an operation, if it has one
abbrev pub address_of : Op → (Reg → Word) → Option Word
address_of (Load addr dest) known = Some (known addr)
address_of (LoadAI addr offset dest) known = Some (plus (known addr) (constant offset))
address_of (Store value addr) known = Some (known addr)
address_of (StoreAI value addr offset) known = Some (plus (known addr) (constant offset))
address_of (Output addr) known = Some (Known (constant addr))
address_of _ known = None

-- of operation i of the block
abbrev pub address_at : List Op → ℕ → Option Word
address_at ops i = address_of (op_at ops i) (known_before ops i)

-- whether two words differ, whatever the result of their base is
abbrev pub are_apart : Word → Word → Bool
are_apart (Known c) (Known d) = not (int_eq (wrapped c) (wrapped d))
are_apart (Based a c) (Based b d) = (a == b) && not (int_eq (wrapped c) (wrapped d))
are_apart _ _ = false

-- whether two operations are apart, given the addresses that are known of them
abbrev pub apart_if_both : Option Word → Option Word → Bool
apart_if_both (Some v) (Some w) = are_apart v w
apart_if_both _ _ = false

-- all count but operations whose addresses are apart
abbrev pub unless_apart : List Op → Counts
unless_apart ops i j = not (apart_if_both (address_at ops i) (address_at ops j))

-- the same where stores, apart or not, count among themselves
abbrev pub by_address : List Op → Counts
by_address ops i j =
    (is_store (kind (op_at ops i)) && is_store (kind (op_at ops j))) || unless_apart ops i j
