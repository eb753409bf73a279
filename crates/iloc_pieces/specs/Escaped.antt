-- How bytes are written within a string of JSON.
use Rattle.std.specs.Prelude.{ℕ, ◌+◌, ◌/◌, ◌%◌, ◌==◌, ◌&&◌, nat_lt, not, if◌then◌else◌, Bool, List, [], ◌∷◌, ◌++◌, codes}

abbrev pub hex_digit : ℕ → ℕ
hex_digit n = if nat_lt n 10 then 48 + n else 87 + n

-- whether a byte is a printable one of ASCII, and neither `"` nor `\`
abbrev pub is_plain : ℕ → Bool
is_plain byte = nat_lt 31 byte && (nat_lt byte 127 && (not (byte == 34) && not (byte == 92)))

-- a byte within a string: itself where it is plain, and else `\u00XX`
abbrev pub escaped : ℕ → List ℕ
escaped byte =
    if is_plain byte then byte ∷ [] else codes "\\u00" ++ hex_digit (byte / 16) ∷ hex_digit (byte % 16) ∷ []
