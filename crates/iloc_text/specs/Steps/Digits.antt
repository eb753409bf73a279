-- Digits as numbers.
use Rattle.std.specs.Prelude.{ℕ, ◌≡◌, ◌⊎◌, ◌<◌, ◌+◌, ◌*◌, nat_lt, if◌then◌else◌, Some, List, [], ◌∷◌}
use Rattle.std.specs.Int.Bits.{bit_and}
use Rattle.iloc_text.specs.Steps.Scan.{number_at}

-- how many numbers come before one that is no digit
abbrev pub digits_first : List ℕ → ℕ
digits_first [] = 0
digits_first (d ∷ ds) = if nat_lt d 10 then 1 + digits_first ds else 0

-- the number that `value` becomes when digits are appended
abbrev pub number_by : ℕ → List ℕ → ℕ
number_by value [] = value
number_by value (d ∷ ds) = number_by (value * 10 + d) ds

-- a mask that leaves how many digits there are as it is
abbrev pub Keeps : ℕ → Type 0
Keeps mask = (n : ℕ) → n < 16 → bit_and n mask ≡ n

-- one that does, or leaves nothing
abbrev pub IsMask : ℕ → Type 0
IsMask mask = (mask ≡ 0) ⊎ Keeps mask

-- what is found in a text: the number at the front, and by a mask of 0 some number, with nothing passed
abbrev pub IsNumber : ℕ → List ℕ → ℕ × List ℕ → Type 0
IsNumber mask text found = (0 < mask → number_at text ≡ Some found) × (mask ≡ 0 → found.1 ≡ text)
