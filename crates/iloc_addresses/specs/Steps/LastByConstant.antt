-- The last store by constant.
use Rattle.std.specs.Prelude.{ℕ, ◌≡◌, ◌==◌, ◌&&◌, ◌/◌, ◌%◌, false, if◌then◌else◌, slice_get, Option, Some, None, ℤ}
use Rattle.std.specs.Int.{w32, cast_unsigned}
use Rattle.std.specs.Ordering.{int_cmp, int_eq}
use Rattle.std.specs.BTreeMap.{get}
use Rattle.iloc_addresses.specs.declared.dependences.last_by_constant.LastByConstant.{LastByConstant}
use Rattle.iloc_addresses.specs.declared.dependences.last_by_constant.Slot.{Slot}

-- the slot where a constant belongs
abbrev pub place_of : ℤ → ℕ
place_of c = cast_unsigned w32 c / 4 % 256

-- the store of a slot at a turn, if it is for the constant, or else the other
abbrev pub op_then : ℕ → ℤ → Option ℕ → Slot → Option ℕ
op_then turn c other slot = if (slot.turn == turn) && int_eq slot.constant c then Some slot.op else other

abbrev pub op_in : ℕ → ℤ → Option Slot → Option ℕ → Option ℕ
op_in turn c slot other = elim slot as (λ _. Option ℕ) [ None ↦ other | Some s ↦ op_then turn c other s ]

-- the last store at a constant, if there is one
abbrev pub last_at : LastByConstant → ℤ → Option ℕ
last_at stores c = op_in stores.turn c (slice_get stores.slots.items (place_of c)) (get int_cmp stores.others c)

-- operation j is the last at constant c, all else is as it was
pub record Notes (old new : LastByConstant) (c : ℤ) (j : ℕ) : Type 0 where
  pub changed : last_at new c ≡ Some j
  pub others : (d : ℤ) → int_eq c d ≡ false → last_at new d ≡ last_at old d
