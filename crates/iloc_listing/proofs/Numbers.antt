-- How long numbers are, and what a negative one is written with.
use Rattle.std.proofs.Common.{◌≡◌, ℕ, ◌<◌, ◌≤◌, ◌^◌, List, ◌∷◌, ◌++◌, length, ℤ, pos, false, refl, arith, append_assoc}
use Rattle.std.specs.Prelude.{int_le, unsigned_abs}
use Rattle.std.specs.Fmt.{decimal}
use Rattle.std.proofs.lemmas.Fmt.{length-decimal-le}
use Rattle.itoa.proofs.Decimal.{minus_first}
use Rattle.iloc_listing.specs.Listing.{word_line}

pub decimal_is_short : (n : ℕ) → n < 2 ^ 64 → length (decimal n) ≤ 20
decimal_is_short n h = length-decimal-le 20 n (omega arith) (omega arith) h

pub word_is_short : (n : ℕ) → n ≤ 2 ^ 31 → length (decimal n) ≤ 10
word_is_short n h = length-decimal-le 10 n (omega arith) (omega arith) (omega (arith, h))

pub negative_line : (z : ℤ) (rest : List ℕ) → int_le (pos 0) z ≡ false
    → 45 ∷ (decimal (unsigned_abs z) ++ (10 ∷ rest)) ≡ word_line z ++ rest
negative_line z rest below = rw (← minus_first z below) (simp append_assoc refl)
