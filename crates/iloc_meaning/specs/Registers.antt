-- What the registers of a running block say.
use Rattle.std.specs.Prelude.{◌≡◌, ◌≢◌, unwrap_or, ℤ, pos}
use Rattle.std.specs.Ordering.{nat_cmp}
use Rattle.std.specs.FinMap.{FinMap, get}
use Rattle.iloc_ops.specs.declared.op.Reg.{Reg}

-- the values of registers, by their numbers
abbrev pub Values : Type 0
Values = FinMap nat_cmp ℤ

-- the value of a register, which is 0 where none was given
unfoldable pub value_of : Values → Reg → ℤ
value_of values r = unwrap_or (get values r.0) (pos 0)

-- the register has the value, and each other keeps its own
pub record ChangesOnly (old new : Values) (r : Reg) (value : ℤ) : Type 0 where
  pub changed : value_of new r ≡ value
  pub others : (s : Reg) → s.0 ≢ r.0 → value_of new s ≡ value_of old s
