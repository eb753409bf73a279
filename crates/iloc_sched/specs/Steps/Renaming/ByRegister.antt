-- Numbers by register.
use Rattle.std.specs.Prelude.{ℕ, ◌≡◌, ◌≢◌, ◌==◌, if◌then◌else◌, slice_get, Option, Some, None}
use Rattle.std.specs.Ordering.{nat_cmp}
use Rattle.std.specs.BTreeMap.{get}
use Rattle.iloc_sched.specs.declared.by_register.ByRegister.{ByRegister}
use Rattle.iloc_sched.specs.declared.by_register.Slot.{Slot}

-- the number of a slot at a turn, if it got one at that turn
abbrev pub number_then : ℕ → Slot → Option ℕ
number_then turn slot = if slot.turn == turn then Some slot.number else None

-- the number that a table has, or else the other
abbrev pub number_in : ℕ → Option Slot → Option ℕ → Option ℕ
number_in turn slot other = elim slot as (λ _. Option ℕ) [ None ↦ other | Some s ↦ number_then turn s ]

-- the number of register r, if it has one
abbrev pub number_at : ByRegister → ℕ → Option ℕ
number_at numbers r = number_in numbers.turn (slice_get numbers.table.items r) (get nat_cmp numbers.others r)

-- register r gets number n, all else is as it was
pub record Sets (old new : ByRegister) (r n : ℕ) : Type 0 where
  pub changed : number_at new r ≡ Some n
  pub others : (s : ℕ) → s ≢ r → number_at new s ≡ number_at old s
