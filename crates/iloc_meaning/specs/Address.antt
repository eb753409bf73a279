-- Which addresses have a word.
use Rattle.std.specs.Prelude.{ℕ, ◌%◌, ◌&&◌, ◌==◌, nat_le, Bool, false, if◌then◌else◌, Option, Some, None, ℤ, pos, negsuc}

-- the address of the last word
abbrev pub LAST_ADDRESS : ℕ
LAST_ADDRESS = 65532

-- a multiple of 4 from 0 to the last
abbrev pub is_good : ℤ → Bool
is_good (pos a) = (a % 4 == 0) && nat_le a LAST_ADDRESS
is_good (negsuc n) = false

-- the address that a value denotes, if it is good
abbrev pub good_address : ℤ → Option ℕ
good_address (pos a) = if is_good (pos a) then Some a else None
good_address (negsuc n) = None
