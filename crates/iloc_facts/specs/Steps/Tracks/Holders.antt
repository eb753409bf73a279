-- The operations whose results registers hold.
use Rattle.std.specs.Prelude.{ℕ, ◌≡◌, ◌≢◌, Option, Some}
use Rattle.std.specs.Ordering.{nat_cmp}
use Rattle.std.specs.BTreeMap.{get}
use Rattle.iloc_ops.specs.declared.op.Reg.{Reg}
use Rattle.iloc_facts.specs.declared.reading.holders.Holders.{Holders}

-- the operation whose result register r holds
abbrev pub holder : Holders → Reg → Option ℕ
holder holders r = get nat_cmp holders.numbers r.0

-- register r holds the result of operation k, and each other what it held
pub record ChangesOnly (old new : Holders) (r : Reg) (k : ℕ) : Type 0 where
  pub changed : holder new r ≡ Some k
  pub others : (s : Reg) → s.0 ≢ r.0 → holder new s ≡ holder old s
