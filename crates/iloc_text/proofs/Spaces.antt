-- Spaces at the front, which are passed eight at a time.
use Rattle.iloc_text.proofs.Common.{◌≡◌, ℕ, zero, suc, ◌+◌, ◌-◌, ◌*◌, ◌/◌, ◌%◌, ◌^◌, ◌<◌, ◌≤◌, true, cond, List, [], ◌∷◌, ◌++◌, map, length, get_or, drop, ◌==◌, sym, refl, ap, ◌∙◌, arith, eqb-true, agree_below_at, mod-pow-add, xor_of_8, bit_xor, number_l, after_blanks}
use Rattle.std.specs.Int.Count.{count_trailing_zeros, under}
use Rattle.std.proofs.Math.Pow.{mod-mod-pow}
use Rattle.iloc_text.proofs.Lanes.{Bytes, eight, xor_lanes, byte_skipped}

divided : (k n : ℕ) → n % 2 ^ count_trailing_zeros k n ≡ 0
unfolding count_trailing_zeros
divided zero n = omega arith
divided (suc k) n = by (n % 2) refl (divided k (n / 2))
  where
    c : ℕ
    c = count_trailing_zeros k (n / 2)

    by : (d : ℕ) → n % 2 ≡ d → n / 2 % 2 ^ c ≡ 0 → n % 2 ^ under d c ≡ 0
    by zero e more = let long : suc c ≡ c + 1 = omega arith in ap (λ j. n % 2 ^ j) long ∙ mod-pow-add n c 1 ∙ omega (arith, e, more)
    by (suc d) e more = omega arith

-- a byte is 0 where eight zeros and more are at the end
zero_byte : (k d n : ℕ) → d < 256 → 8 ≤ count_trailing_zeros k (d + 256 * n) → d ≡ 0
zero_byte k d n low h =
    let all = d + 256 * n in
    let c = count_trailing_zeros k all in
    let size : c ≡ c - 8 + 8 = omega (arith, h) in
    let none : all % 2 ^ 8 ≡ 0 = sym (mod-mod-pow all (c - 8) 8) ∙ ap (λ j. all % 2 ^ j % 2 ^ 8) (sym size) ∙ ap (λ m. m % 2 ^ 8) (divided k all) in
    omega (arith, low, none)

space_of : (b : ℕ) → b < 256 → bit_xor b 32 ≡ 0 → b ≡ 32
space_of b low e =
    eqb-true b 32 (ap (λ d. cond (d == 0) (b == 32) true) (sym e)
    ∙ agree_below_at (λ n. cond (bit_xor n 32 == 0) (n == 32) true) (λ n. true) 256 b refl low)

passed : (bs more : List ℕ) → Bytes bs
    → after_blanks (drop (count_trailing_zeros (8 * length bs) (number_l 256 (map (λ b. bit_xor b 32) bs)) / 8) (bs ++ more)) ≡ after_blanks (bs ++ more)
unfolding count_trailing_zeros
passed [] more h = refl
passed (b ∷ bs) more h = by (c / 8) refl (passed bs more h.1)
  where
    k : ℕ
    k = 8 * length bs

    n : ℕ
    n = number_l 256 (map (λ b. bit_xor b 32) bs)

    c : ℕ
    c = count_trailing_zeros (8 * length (b ∷ bs)) (bit_xor b 32 + 256 * n)

    by : (q : ℕ) → c / 8 ≡ q → after_blanks (drop (count_trailing_zeros k n / 8) (bs ++ more)) ≡ after_blanks (bs ++ more)
        → after_blanks (drop q (b ∷ bs ++ more)) ≡ after_blanks (b ∷ bs ++ more)
    by zero e others = refl
    by (suc m) e others =
        let none = zero_byte (8 * length (b ∷ bs)) (bit_xor b 32) n (xor_of_8 b 32 h.0 (omega arith)) (omega (arith, e)) in
        let long : 8 * length (b ∷ bs) ≡ 8 + k = omega arith in
        let others_alone : bit_xor b 32 + 256 * n ≡ 256 * n = omega (arith, none) in
        let whole : c ≡ 8 + count_trailing_zeros k n = ap (λ j. count_trailing_zeros j (bit_xor b 32 + 256 * n)) long ∙ ap (count_trailing_zeros (8 + k)) others_alone ∙ byte_skipped k n in
        let count : m ≡ count_trailing_zeros k n / 8 = omega (arith, e, whole) in
        ap (λ j. after_blanks (drop j (bs ++ more))) count ∙ others ∙ sym (rw (space_of b h.0 none) refl)

pub spaces_passed : (bytes : List ℕ) (front : ℕ) → 8 ≤ length bytes → ((i : ℕ) → get_or bytes i 0 < 256)
    → front ≡ number_l 256 (get_or bytes 0 0 ∷ get_or bytes 1 0 ∷ get_or bytes 2 0 ∷ get_or bytes 3 0 ∷ get_or bytes 4 0 ∷ get_or bytes 5 0 ∷ get_or bytes 6 0 ∷ get_or bytes 7 0 ∷ [])
    → after_blanks (drop (count_trailing_zeros 64 (bit_xor front 2314885530818453536) / 8) bytes) ≡ after_blanks bytes
spaces_passed (a ∷ b ∷ c ∷ d ∷ x ∷ f ∷ g ∷ h ∷ more) front long small is =
    let first = a ∷ b ∷ c ∷ d ∷ x ∷ f ∷ g ∷ h ∷ [] in
    let space : 32 < 256 = omega arith in
    let low = eight (small 0) (small 1) (small 2) (small 3) (small 4) (small 5) (small 6) (small 7) in
    let whole : bit_xor front 2314885530818453536 ≡ number_l 256 (map (λ b. bit_xor b 32) first)
    = ap (λ n. bit_xor n 2314885530818453536) is
    ∙ xor_lanes first (32 ∷ 32 ∷ 32 ∷ 32 ∷ 32 ∷ 32 ∷ 32 ∷ 32 ∷ []) refl low (eight space space space space space space space space) in
    ap (λ n. after_blanks (drop (count_trailing_zeros 64 n / 8) (first ++ more))) whole ∙ passed first more low
spaces_passed _ front long small is = absurd (omega (arith, long))
