-- Arithmetic on values of 32 bits, in two's complement.
use Rattle.std.specs.Prelude.{ℕ, ◌%◌, ℤ}
use Rattle.std.specs.Int.{w32, int_wrap, int_shl, int_shr, cast_signed, cast_unsigned}

-- a number wrapped to 32 bits
abbrev pub wrapped : ℤ → ℤ
wrapped z = int_wrap w32 z

-- the value whose pattern a constant is
abbrev pub constant : ℕ → ℤ
constant c = cast_signed w32 c

-- by how many bits a shift goes: its amount modulo 32
abbrev pub shift_of : ℤ → ℕ
shift_of amount = cast_unsigned w32 amount % 32

abbrev pub shifted_left : ℤ → ℤ → ℤ
shifted_left z amount = int_shl w32 z (shift_of amount)

-- the sign is kept
abbrev pub shifted_right : ℤ → ℤ → ℤ
shifted_right z amount = int_shr z (shift_of amount)
