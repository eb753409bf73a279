-- Bytes side by side in a number, the first of them the lowest, and the digits among them.
use Rattle.iloc_text.proofs.Common.{◌≡◌, ℕ, zero, suc, ◌+◌, ◌-◌, ◌*◌, ◌/◌, ◌%◌, ◌^◌, ◌<◌, ◌≤◌, Bool, true, false, cond, List, [], ◌∷◌, length, take, nat_lt, ◌==◌, sym, refl, ap, ◌∙◌, ap₂, arith, ltb-true, eqb-true, agree_below_at, and_block, and_le_r, and_mask, and_mod, div-mul-add, mod-mul-add, mod-pow-add, or_block, or_mod, or_of_8, xor_block, bit_and, bit_or, bit_xor, AllByRecursion, number_l, zip2, digits_first, number_by}
use Rattle.std.specs.Int.Count.{count_trailing_zeros}

abbrev pub Bytes : List ℕ → Type 0
Bytes xs = AllByRecursion (λ x. x < 256) xs

pub eight : {p q r s t u v w : ℕ} → p < 256 → q < 256 → r < 256 → s < 256 → t < 256 → u < 256 → v < 256 → w < 256
    → Bytes (p ∷ q ∷ r ∷ s ∷ t ∷ u ∷ v ∷ w ∷ [])
eight a b c d e f g h = (a, (b, (c, (d, (e, (f, (g, (h, tt))))))))

turned : (a n : ℕ) → a + 256 * n ≡ n * 2 ^ 8 + a
turned a n = omega arith

pub xor_lanes : (xs ys : List ℕ) → length xs ≡ length ys → Bytes xs → Bytes ys
    → bit_xor (number_l 256 xs) (number_l 256 ys) ≡ number_l 256 (zip2 bit_xor xs ys)
xor_lanes [] [] e hx hy = refl
xor_lanes [] (y ∷ ys) e hx hy = absurd (omega (arith, e))
xor_lanes (x ∷ xs) [] e hx hy = absurd (omega (arith, e))
xor_lanes (x ∷ xs) (y ∷ ys) e hx hy =
    ap₂ bit_xor (turned x (number_l 256 xs)) (turned y (number_l 256 ys))
    ∙ xor_block 8 (number_l 256 xs) (number_l 256 ys) x y hx.0 hy.0
    ∙ ap (λ n. n * 2 ^ 8 + bit_xor x y) (xor_lanes xs ys (omega (arith, e)) hx.1 hy.1)
    ∙ sym (turned (bit_xor x y) (number_l 256 (zip2 bit_xor xs ys)))

-- What a front of the bytes is

digit : (a b s t : ℕ) → a < 256 → s < 256 → b * 256 + a ≡ s + 256 * t → (a ≡ s) × (b ≡ t)
digit a b s t a' s' is = (omega (arith, a', s', is), omega (arith, a', s', is))

pub front_is : (text bytes : List ℕ) → Bytes text → Bytes bytes → length text ≤ length bytes
    → number_l 256 bytes % 2 ^ (8 * length text) ≡ number_l 256 text → take (length text) bytes ≡ text
front_is [] bytes ht hb long e = refl
front_is (t ∷ ts) [] ht hb long e = absurd (omega (arith, long))
front_is (t ∷ ts) (b ∷ bs) ht hb long e =
    let k = 8 * length ts in
    let n = number_l 256 bs in
    let high : (b + 256 * n) / 2 ^ 8 ≡ n = omega (arith, hb.0) in
    let low : (b + 256 * n) % 2 ^ 8 ≡ b = omega (arith, hb.0) in
    let size : k + 8 ≡ 8 * length (t ∷ ts) = omega arith in
    let split = mod-pow-add (b + 256 * n) k 8 ∙ ap₂ (λ x y. x % 2 ^ k * 2 ^ 8 + y) high low in
    let parts = digit b (n % 2 ^ k) t (number_l 256 ts) hb.0 ht.0
    (sym split ∙ ap (λ j. (b + 256 * n) % 2 ^ j) size ∙ e) in
    ap₂ (λ x xs. x ∷ xs) parts.0 (front_is ts bs ht.1 hb.1 (omega (arith, long)) parts.1)

-- The first byte that is 10 or more

abbrev flag : ℕ → ℕ
flag d = bit_and (bit_or ((d + 118) % 256) d) 128

flag_is : (d : ℕ) → d < 256 → flag d ≡ cond (nat_lt d 10) 0 128
flag_is d h = eqb-true (flag d) (cond (nat_lt d 10) 0 128)
    (agree_below_at (λ n. flag n == cond (nat_lt n 10) 0 128) (λ n. true) 256 d refl h)

even : (k n : ℕ) → count_trailing_zeros (suc k) (n * 2) ≡ suc (count_trailing_zeros k n)
unfolding count_trailing_zeros
even k n =
    let low : n * 2 % 2 ≡ 0 = omega arith in
    let high : n * 2 / 2 ≡ n = omega arith in
    rw (low, high) refl

odd : (k n : ℕ) → count_trailing_zeros (suc k) (n * 2 + 1) ≡ 0
unfolding count_trailing_zeros
odd k n = let low : (n * 2 + 1) % 2 ≡ 1 = omega arith in rw low refl

-- seven bits without a 1
seven_even : (k n : ℕ) → count_trailing_zeros (suc (suc (suc (suc (suc (suc (suc k))))))) (n * 2 * 2 * 2 * 2 * 2 * 2 * 2)
    ≡ suc (suc (suc (suc (suc (suc (suc (count_trailing_zeros k n)))))))
seven_even k n = rw (
  even (suc (suc (suc (suc (suc (suc k)))))) (n * 2 * 2 * 2 * 2 * 2 * 2),
  even (suc (suc (suc (suc (suc k))))) (n * 2 * 2 * 2 * 2 * 2),
  even (suc (suc (suc (suc k)))) (n * 2 * 2 * 2 * 2),
  even (suc (suc (suc k))) (n * 2 * 2 * 2),
  even (suc (suc k)) (n * 2 * 2),
  even (suc k) (n * 2),
  even k n,
) refl

pub byte_skipped : (k n : ℕ) → count_trailing_zeros (8 + k) (256 * n) ≡ 8 + count_trailing_zeros k n
byte_skipped k n =
    let moved : 256 * n ≡ n * 2 * 2 * 2 * 2 * 2 * 2 * 2 * 2 = omega arith in
    let long : 8 + k ≡ suc (suc (suc (suc (suc (suc (suc (suc k))))))) = omega arith in
    ap₂ count_trailing_zeros long moved ∙ seven_even (suc k) (n * 2)
    ∙ ap (λ z. suc (suc (suc (suc (suc (suc (suc z))))))) (even k n) ∙ omega arith

byte_ends : (k n : ℕ) → count_trailing_zeros (8 + k) (128 + 256 * n) ≡ 7
byte_ends k n =
    let moved : 128 + 256 * n ≡ (n * 2 + 1) * 2 * 2 * 2 * 2 * 2 * 2 * 2 = omega arith in
    let long : 8 + k ≡ suc (suc (suc (suc (suc (suc (suc (suc k))))))) = omega arith in
    ap₂ count_trailing_zeros long moved ∙ seven_even (suc k) (n * 2 + 1)
    ∙ ap (λ z. suc (suc (suc (suc (suc (suc (suc z))))))) (odd k n)

-- a number of as many equal bytes
abbrev filled : ℕ → List ℕ → ℕ
filled each [] = 0
filled each (d ∷ ds) = each + 256 * filled each ds

-- the lowest byte of what is found, and the others
lowest : (d n k m : ℕ) → d < 256 → bit_and (bit_or (d + 256 * n + (118 + 256 * k)) (d + 256 * n)) (128 + 256 * m)
    ≡ flag d + 256 * bit_and (bit_or (n + k + (d + 118) / 256) n) m
lowest d n k m h =
    let high = n + k + (d + 118) / 256 in
    let low = (d + 118) % 256 in
    let small : low < 256 = omega arith in
    let summed : d + 256 * n + (118 + 256 * k) ≡ high * 2 ^ 8 + low = omega arith in
    let either = ap₂ bit_or summed (turned d n) ∙ or_block 8 high n low d small h in
    ap₂ bit_and either (turned 128 m)
    ∙ and_block 8 (bit_or high n) m (bit_or low d) 128 (or_of_8 low d small h) (omega arith) ∙ omega arith

zeros_of : (ds : List ℕ) → Bytes ds
    → count_trailing_zeros (8 * length ds) (bit_and (bit_or (number_l 256 ds + filled 118 ds) (number_l 256 ds)) (filled 128 ds)) / 8
    ≡ digits_first ds
unfolding count_trailing_zeros
zeros_of [] h = refl
zeros_of (d ∷ ds) h = by (nat_lt d 10) refl (zeros_of ds h.1)
  where
    n : ℕ
    n = number_l 256 ds

    rest : ℕ → ℕ
    rest carry = bit_and (bit_or (n + filled 118 ds + carry) n) (filled 128 ds)

    long : 8 * length (d ∷ ds) ≡ 8 + 8 * length ds
    long = omega arith

    whole : bit_and (bit_or (d + 256 * n + (118 + 256 * filled 118 ds)) (d + 256 * n)) (128 + 256 * filled 128 ds)
        ≡ flag d + 256 * rest ((d + 118) / 256)
    whole = lowest d n (filled 118 ds) (filled 128 ds) h.0

    by : (b : Bool) → nat_lt d 10 ≡ b
        → count_trailing_zeros (8 * length ds) (bit_and (bit_or (n + filled 118 ds) n) (filled 128 ds)) / 8 ≡ digits_first ds
        → count_trailing_zeros (8 * length (d ∷ ds)) (bit_and (bit_or (d + 256 * n + (118 + 256 * filled 118 ds)) (d + 256 * n)) (128 + 256 * filled 128 ds)) / 8
        ≡ cond b (1 + digits_first ds) 0
    by true e more =
        let none : (d + 118) / 256 ≡ 0 = omega (arith, ltb-true d 10 e) in
        let same : n + filled 118 ds + (d + 118) / 256 ≡ n + filled 118 ds = omega (arith, none) in
        let skipped : flag d + 256 * rest ((d + 118) / 256) ≡ 256 * bit_and (bit_or (n + filled 118 ds) n) (filled 128 ds) =
        ap₂ (λ f x. f + 256 * bit_and (bit_or x n) (filled 128 ds)) (flag_is d h.0 ∙ ap (λ t. cond t 0 128) e) same ∙ omega arith in
        let counted = ap₂ count_trailing_zeros long (whole ∙ skipped)
        ∙ byte_skipped (8 * length ds) (bit_and (bit_or (n + filled 118 ds) n) (filled 128 ds)) in
        ap (λ z. z / 8) counted ∙ omega arith ∙ ap (λ z. 1 + z) more
    by false e more =
        let counted = ap₂ count_trailing_zeros long (whole ∙ ap (λ f. f + 256 * rest ((d + 118) / 256)) (flag_is d h.0 ∙ ap (λ t. cond t 0 128) e))
        ∙ byte_ends (8 * length ds) (rest ((d + 118) / 256)) in
        ap (λ z. z / 8) counted ∙ omega arith

-- a sum that wraps beyond the bytes
unwrapped : (a n m : ℕ) → n < 18446744073709551616 → m < 18446744073709551616
    → bit_and (bit_or (a % 18446744073709551616) n) m ≡ bit_and (bit_or a n) m
unwrapped a n m hn hm =
    let within : n % 2 ^ 64 ≡ n = omega (arith, hn) in
    let mask : m % 2 ^ 64 ≡ m = omega (arith, hm) in
    let either : bit_or a n % 2 ^ 64 ≡ bit_or (a % 2 ^ 64) n = or_mod a n 64 ∙ ap (bit_or (a % 2 ^ 64)) within in
    let both : bit_and (bit_or a n) m % 2 ^ 64 ≡ bit_and (bit_or a n % 2 ^ 64) m = and_mod (bit_or a n) m 64 ∙ ap (bit_and (bit_or a n % 2 ^ 64)) mask in
    let small : bit_and (bit_or a n) m % 2 ^ 64 ≡ bit_and (bit_or a n) m = omega (arith, and_le_r (bit_or a n) m, hm) in
    ap (λ x. bit_and x m) (sym either) ∙ sym both ∙ small

pub digits_counted : (digits : ℕ) (bytes : List ℕ) → digits < 18446744073709551616 → Bytes bytes → length bytes ≡ 8
    → digits ≡ number_l 256 bytes
    → count_trailing_zeros 64 (bit_and (bit_or ((digits + 8536140394893047414) % 18446744073709551616) digits) 9259542123273814144) / 8
    ≡ digits_first bytes
digits_counted digits (p ∷ q ∷ r ∷ s ∷ t ∷ u ∷ v ∷ w ∷ []) fits h long e =
    ap (λ x. count_trailing_zeros 64 x / 8) (unwrapped (digits + 8536140394893047414) digits 9259542123273814144 fits (omega arith)
    ∙ ap (λ n. bit_and (bit_or (n + 8536140394893047414) n) 9259542123273814144) e)
    ∙ zeros_of (p ∷ q ∷ r ∷ s ∷ t ∷ u ∷ v ∷ w ∷ []) h
digits_counted digits [] fits h long e = absurd (omega (arith, long))
digits_counted digits (p ∷ []) fits h long e = absurd (omega (arith, long))
digits_counted digits (p ∷ q ∷ []) fits h long e = absurd (omega (arith, long))
digits_counted digits (p ∷ q ∷ r ∷ []) fits h long e = absurd (omega (arith, long))
digits_counted digits (p ∷ q ∷ r ∷ s ∷ []) fits h long e = absurd (omega (arith, long))
digits_counted digits (p ∷ q ∷ r ∷ s ∷ t ∷ []) fits h long e = absurd (omega (arith, long))
digits_counted digits (p ∷ q ∷ r ∷ s ∷ t ∷ u ∷ []) fits h long e = absurd (omega (arith, long))
digits_counted digits (p ∷ q ∷ r ∷ s ∷ t ∷ u ∷ v ∷ []) fits h long e = absurd (omega (arith, long))
digits_counted digits (p ∷ q ∷ r ∷ s ∷ t ∷ u ∷ v ∷ w ∷ x ∷ more) fits h long e = absurd (omega (arith, long))

-- The number of up to four digits

abbrev pub summed : ℕ → ℕ
summed n = bit_and (n * 2561 % 4294967296 / 256) 255 * 100 + n * 2561 % 4294967296 / 16777216

four : (x y z w : ℕ) → x < 10 → y < 10 → z < 10 → w < 10
    → summed (x + 256 * (y + 256 * (z + 256 * w))) ≡ ((x * 10 + y) * 10 + z) * 10 + w
four x y z w x' y' z' w' =
    let n = x + 256 * (y + 256 * (z + 256 * w)) in
    let high = w + 10 * z in
    let sum = x + 256 * (y + 10 * x) + 65536 * (z + 10 * y) + 16777216 * high in
    let upper = y + 10 * x + 256 * (z + 10 * y) + 65536 * high in
    let spread : n * 2561 ≡ (10 * w) * 4294967296 + sum = omega arith in
    let fits : sum < 4294967296 = omega (arith, x', y', z', w') in
    let all : n * 2561 % 4294967296 ≡ sum = ap (λ m. m % 4294967296) spread ∙ mod-mul-add (10 * w) 4294967296 sum fits in
    let above : sum ≡ upper * 256 + x = omega arith in
    let shifted : sum / 256 ≡ upper = ap (λ m. m / 256) above ∙ div-mul-add upper 256 x (omega (arith, x')) in
    let parts : upper ≡ (z + 10 * y + 256 * high) * 256 + (y + 10 * x) = omega arith in
    let second : bit_and upper 255 ≡ y + 10 * x = and_mask upper 8 ∙ ap (λ m. m % 256) parts
    ∙ mod-mul-add (z + 10 * y + 256 * high) 256 (y + 10 * x) (omega (arith, x', y')) in
    let apart : sum ≡ high * 16777216 + (x + 256 * (y + 10 * x) + 65536 * (z + 10 * y)) = omega arith in
    let last : sum / 16777216 ≡ high = ap (λ m. m / 16777216) apart
    ∙ div-mul-add high 16777216 (x + 256 * (y + 10 * x) + 65536 * (z + 10 * y)) (omega (arith, x', y', z')) in
    rw (all, shifted, second, last) (omega arith)

kept : (digits a b c d rest : ℕ) → Bytes (a ∷ b ∷ c ∷ d ∷ []) → digits ≡ number_l 256 (a ∷ b ∷ c ∷ d ∷ rest ∷ [])
    → bit_and digits 4294967295 ≡ a + 256 * (b + 256 * (c + 256 * d))
kept digits a b c d rest h e =
    let low = a + 256 * (b + 256 * (c + 256 * d)) in
    let apart : digits ≡ rest * 4294967296 + low = e ∙ omega arith in
    and_mask digits 32 ∙ ap (λ m. m % 4294967296) apart
    ∙ mod-mul-add rest 4294967296 low (omega (arith, h.0, h.1.0, h.1.1.0, h.1.1.1.0))

pub digits_valued : (digits count a b c d rest : ℕ) → 1 ≤ count → count ≤ 4
    → AllByRecursion (λ x. x < 10) (take count (a ∷ b ∷ c ∷ d ∷ [])) → Bytes (a ∷ b ∷ c ∷ d ∷ [])
    → digits ≡ number_l 256 (a ∷ b ∷ c ∷ d ∷ rest ∷ [])
    → summed (bit_and digits 4294967295 * 2 ^ ((32 - 8 * count) % 32) % 4294967296) ≡ number_by 0 (take count (a ∷ b ∷ c ∷ d ∷ []))
digits_valued digits zero a b c d rest some few h small e = absurd (omega (arith, some))
digits_valued digits (suc zero) a b c d rest some few h small e =
    let moved : (a + 256 * (b + 256 * (c + 256 * d))) * 16777216 ≡ (b + 256 * (c + 256 * d)) * 4294967296 + (0 + 256 * (0 + 256 * (0 + 256 * a))) = omega arith in
    ap (λ n. summed (n * 16777216 % 4294967296)) (kept digits a b c d rest small e)
    ∙ ap (λ n. summed (n % 4294967296)) moved
    ∙ ap summed (mod-mul-add (b + 256 * (c + 256 * d)) 4294967296 (0 + 256 * (0 + 256 * (0 + 256 * a))) (omega (arith, small.0)))
    ∙ four 0 0 0 a (omega arith) (omega arith) (omega arith) h.0 ∙ omega arith
digits_valued digits (suc (suc zero)) a b c d rest some few h small e =
    let moved : (a + 256 * (b + 256 * (c + 256 * d))) * 65536 ≡ (c + 256 * d) * 4294967296 + (0 + 256 * (0 + 256 * (a + 256 * b))) = omega arith in
    ap (λ n. summed (n * 65536 % 4294967296)) (kept digits a b c d rest small e)
    ∙ ap (λ n. summed (n % 4294967296)) moved
    ∙ ap summed (mod-mul-add (c + 256 * d) 4294967296 (0 + 256 * (0 + 256 * (a + 256 * b))) (omega (arith, small.0, small.1.0)))
    ∙ four 0 0 a b (omega arith) (omega arith) h.0 h.1.0 ∙ omega arith
digits_valued digits (suc (suc (suc zero))) a b c d rest some few h small e =
    let moved : (a + 256 * (b + 256 * (c + 256 * d))) * 256 ≡ d * 4294967296 + (0 + 256 * (a + 256 * (b + 256 * c))) = omega arith in
    ap (λ n. summed (n * 256 % 4294967296)) (kept digits a b c d rest small e)
    ∙ ap (λ n. summed (n % 4294967296)) moved
    ∙ ap summed (mod-mul-add d 4294967296 (0 + 256 * (a + 256 * (b + 256 * c))) (omega (arith, small.0, small.1.0, small.1.1.0)))
    ∙ four 0 a b c (omega arith) h.0 h.1.0 h.1.1.0 ∙ omega arith
digits_valued digits (suc (suc (suc (suc zero)))) a b c d rest some few h small e =
    let moved : (a + 256 * (b + 256 * (c + 256 * d))) * 1 ≡ 0 * 4294967296 + (a + 256 * (b + 256 * (c + 256 * d))) = omega arith in
    ap (λ n. summed (n * 1 % 4294967296)) (kept digits a b c d rest small e)
    ∙ ap (λ n. summed (n % 4294967296)) moved
    ∙ ap summed (mod-mul-add 0 4294967296 (a + 256 * (b + 256 * (c + 256 * d))) (omega (arith, small.0, small.1.0, small.1.1.0, small.1.1.1.0)))
    ∙ four a b c d h.0 h.1.0 h.1.1.0 h.1.1.1.0 ∙ omega arith
digits_valued digits (suc (suc (suc (suc (suc n))))) a b c d rest some few h small e = absurd (omega (arith, few))
