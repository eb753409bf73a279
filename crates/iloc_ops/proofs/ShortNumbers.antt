-- Numbers below 10,000 in decimal, as the code computes them: each of them is tried.
use Rattle.std.proofs.Common.{◌≡◌, ◌+◌, ◌-◌, ◌*◌, ◌/◌, ◌%◌, ◌≤◌, ◌<◌, ◌^◌, ℕ, zero, suc, true, cond, List, [], ◌∷◌, ◌++◌, drop, length, nat_lt, refl, ◌∙◌, arith, rules}
use Rattle.std.specs.Fmt.{decimal}
use Rattle.std.specs.Int.{w32, to_le_bytes}
use Rattle.std.specs.Int.Bits.{bit_and, bit_or}
use Rattle.std.specs.Int.Count.{count_trailing_zeros}
use Rattle.std.specs.Str.{bytes_eq}
use Rattle.std.proofs.lemmas.Bool.{agree_below_at, ltb-true}
use Rattle.std.proofs.lemmas.Fmt.{AppendsLastDigit, decimal_from_appends, length-decimal-le}
use Rattle.std.proofs.lemmas.Slice.Eq.{bytes_eq-Decides}

-- a number of 32 bits has ten digits at most
pub decimal_is_short : (n : ℕ) → n < 2 ^ 32 → length (decimal n) ≤ 10
decimal_is_short n h = length-decimal-le 10 n (omega arith) (omega arith) (omega arith)

-- what the code computes
abbrev halves : ℕ → ℕ
halves n = n * 65536 % 4294967296 - n * 5243 / 524288 * 6553599

abbrev tens : ℕ → ℕ
tens n = bit_and (halves n * 103 / 1024) 983055

abbrev digits : ℕ → ℕ
digits n = halves n * 256 % 4294967296 - tens n * 2559

abbrev text : ℕ → List ℕ
text n = drop (count_trailing_zeros 32 (bit_or (digits n) 16777216) / 8) (to_le_bytes w32 (digits n + 808464432))

-- in decimal, of at most so many digits
abbrev spelled : ℕ → ℕ → List ℕ
spelled zero n = []
spelled (suc k) n = cond (nat_lt n 10) ((48 + n) ∷ []) (spelled k (n / 10) ++ ((48 + n % 10) ∷ []))

appends : AppendsLastDigit spelled
appends = search rules

pub tens_fit : (n : ℕ) → n < 10000 → tens n * 2559 < halves n * 256 % 4294967296 + 1
tens_fit n h = ltb-true _ _ (agree_below_at (λ n. nat_lt (tens n * 2559) (halves n * 256 % 4294967296 + 1)) (λ n. true) 10000 n refl h)

pub text_is : (n : ℕ) → n < 10000 → text n ≡ decimal n
unfolding count_trailing_zeros
text_is n h =
    let few : length (decimal n) ≤ 4 = length-decimal-le 4 n (omega arith) (omega arith) (omega arith) in
    (bytes_eq-Decides (text n) (spelled 4 n)).0 (agree_below_at (λ n. bytes_eq (text n) (spelled 4 n)) (λ n. true) 10000 n refl h)
    ∙ decimal_from_appends spelled appends 4 n (omega arith) few
