-- Up to four digits at the front, which are read at once, and the digits in a front of the bytes.
use Rattle.iloc_text.proofs.Common.{◌≡◌, ℕ, zero, suc, ◌+◌, ◌-◌, ◌*◌, ◌%◌, ◌<◌, ◌≤◌, Bool, true, false, cond, ◌&&◌, ◌⊎◌, List, [], ◌∷◌, length, get_or, take, drop, if◌then◌else◌, nat_lt, ◌==◌, Some, None, Option, sym, refl, ap, ◌∙◌, subst, ap₂, inl, inr, arith, length-drop, length-take, take_all, w64, ltb-true, eqb-true, agree_below_at, and_comm, and_le_r, and_mask, xor_of_8, is_ascii_digit, and_zero_r, bit_and, bit_xor, AllByRecursion, number_l, IsMask, digits_first, number_by, capped, digits_after, number_at}
use Rattle.std.specs.Int.{from_bool, from_le_bytes}
use Rattle.iloc_text.proofs.Lanes.{Bytes, eight, xor_lanes}

-- d is the digit that c writes, where it writes one
pub record DigitIn (c d : ℕ) : Type 0 where
  pub is : nat_lt d 10 ≡ is_ascii_digit c
  pub value : nat_lt d 10 ≡ true → c ≡ d + 48

one_more : (v c d : ℕ) (cs : List ℕ) → v < 100000 → DigitIn c d → nat_lt d 10 ≡ true
    → digits_after v (c ∷ cs) ≡ digits_after (v * 10 + d) cs
one_more v c d cs low digit e =
    rw (sym digit.is ∙ e) (ap (λ n. digits_after n cs) (omega (arith, digit.value e, ltb-true d 10 e, low)))

no_more : (v c d : ℕ) (cs : List ℕ) → DigitIn c d → nat_lt d 10 ≡ false → digits_after v (c ∷ cs) ≡ (v, c ∷ cs)
no_more v c d cs digit e = rw (sym digit.is ∙ e) refl

abbrev pub grown : Bool → ℕ → ℕ → ℕ
grown counts value digit = if counts then value * 10 + digit else value

-- the number of p and those of three further digits that count, and how many these are
abbrev value_of : (p q r s : ℕ) (x y z : Bool) → ℕ
value_of p q r s x y z = grown ((x && y) && z) (grown (x && y) (grown x p q) r) s

abbrev count_of : (x y z : Bool) → ℕ
count_of x y z = from_bool x + from_bool (x && y) + from_bool ((x && y) && z)

passed : (b c d : ℕ) (more : List ℕ) (p q r s : ℕ) → DigitIn b q → DigitIn c r → DigitIn d s → p < 10
    → (x y z : Bool) → nat_lt q 10 ≡ x → nat_lt r 10 ≡ y → nat_lt s 10 ≡ z
    → digits_after p (b ∷ c ∷ d ∷ more) ≡ digits_after (value_of p q r s x y z) (drop (count_of x y z) (b ∷ c ∷ d ∷ more))
passed b c d more p q r s db dc dd low false y z eq er es = refl
passed b c d more p q r s db dc dd low true false z eq er es = one_more p b q (c ∷ d ∷ more) (omega (arith, low)) db eq
passed b c d more p q r s db dc dd low true true false eq er es =
    one_more p b q (c ∷ d ∷ more) (omega (arith, low)) db eq
    ∙ one_more (p * 10 + q) c r (d ∷ more) (omega (arith, low, ltb-true q 10 eq)) dc er
passed b c d more p q r s db dc dd low true true true eq er es =
    one_more p b q (c ∷ d ∷ more) (omega (arith, low)) db eq
    ∙ one_more (p * 10 + q) c r (d ∷ more) (omega (arith, low, ltb-true q 10 eq)) dc er
    ∙ one_more ((p * 10 + q) * 10 + r) d s more (omega (arith, low, ltb-true q 10 eq, ltb-true r 10 er)) dd es

ended : (b c d e : ℕ) (more : List ℕ) (v q r s t : ℕ) → DigitIn b q → DigitIn c r → DigitIn d s → DigitIn e t
    → (x y z w : Bool) → nat_lt q 10 ≡ x → nat_lt r 10 ≡ y → nat_lt s 10 ≡ z → nat_lt t 10 ≡ w
    → (((x && y) && z) && w) ≡ false
    → digits_after v (drop (count_of x y z) (b ∷ c ∷ d ∷ e ∷ more)) ≡ (v, drop (count_of x y z) (b ∷ c ∷ d ∷ e ∷ more))
ended b c d e more v q r s t db dc dd de false y z w eq er es et h = no_more v b q (c ∷ d ∷ e ∷ more) db eq
ended b c d e more v q r s t db dc dd de true false z w eq er es et h = no_more v c r (d ∷ e ∷ more) dc er
ended b c d e more v q r s t db dc dd de true true false w eq er es et h = no_more v d s (e ∷ more) dd es
ended b c d e more v q r s t db dc dd de true true true false eq er es et h = no_more v e t more de et
ended b c d e more v q r s t db dc dd de true true true true eq er es et h = cc

first_one : (a p : ℕ) (rest : List ℕ) → DigitIn a p → nat_lt p 10 ≡ true → number_at (a ∷ rest) ≡ Some (digits_after p rest)
first_one a p rest digit e =
    rw (sym digit.is ∙ e) (ap (λ n. Some (digits_after n rest)) (omega (arith, digit.value e, ltb-true p 10 e)))

-- what stands behind up to four digits, and their number
abbrev rest_of : (bytes : List ℕ) (q r s : ℕ) → List ℕ
rest_of bytes q r s = drop (1 + from_bool (nat_lt q 10) + from_bool (nat_lt q 10 && nat_lt r 10) + from_bool ((nat_lt q 10 && nat_lt r 10) && nat_lt s 10)) bytes

behind : (a : ℕ) (rest : List ℕ) (x y z : Bool)
    → drop (1 + from_bool x + from_bool (x && y) + from_bool ((x && y) && z)) (a ∷ rest) ≡ drop (count_of x y z) rest
behind a rest false y z = refl
behind a rest true false z = refl
behind a rest true true false = refl
behind a rest true true true = refl

pub four_passed : (bytes : List ℕ) (p q r s : ℕ) → 5 ≤ length bytes → DigitIn (get_or bytes 0 0) p
    → DigitIn (get_or bytes 1 0) q → DigitIn (get_or bytes 2 0) r → DigitIn (get_or bytes 3 0) s → nat_lt p 10 ≡ true
    → number_at bytes ≡ Some (digits_after (value_of p q r s (nat_lt q 10) (nat_lt r 10) (nat_lt s 10)) (rest_of bytes q r s))
four_passed (a ∷ b ∷ c ∷ d ∷ more) p q r s long da db dc dd first =
    let x = nat_lt q 10 in
    let y = nat_lt r 10 in
    let z = nat_lt s 10 in
    first_one a p (b ∷ c ∷ d ∷ more) da first
    ∙ ap (λ found. Some found) (passed b c d more p q r s db dc dd (ltb-true p 10 first) x y z refl refl refl)
    ∙ ap (λ rest. Some (digits_after (value_of p q r s x y z) rest)) (sym (behind a (b ∷ c ∷ d ∷ more) x y z))
four_passed _ p q r s long da db dc dd first = absurd (omega (arith, long))

pub four_end : (bytes : List ℕ) (v q r s t : ℕ) → 5 ≤ length bytes → DigitIn (get_or bytes 1 0) q
    → DigitIn (get_or bytes 2 0) r → DigitIn (get_or bytes 3 0) s → DigitIn (get_or bytes 4 0) t
    → (((nat_lt q 10 && nat_lt r 10) && nat_lt s 10) && nat_lt t 10) ≡ false
    → digits_after v (rest_of bytes q r s) ≡ (v, rest_of bytes q r s)
four_end (a ∷ b ∷ c ∷ d ∷ e ∷ more) v q r s t long db dc dd de h =
    let x = nat_lt q 10 in
    let y = nat_lt r 10 in
    let z = nat_lt s 10 in
    ap (λ rest. digits_after v rest) (behind a (b ∷ c ∷ d ∷ e ∷ more) x y z)
    ∙ ended b c d e more v q r s t db dc dd de x y z (nat_lt t 10) refl refl refl refl h
    ∙ ap (λ rest. (v, rest)) (sym (behind a (b ∷ c ∷ d ∷ e ∷ more) x y z))
four_end _ v q r s t long db dc dd de h = absurd (omega (arith, long))

-- Digits in a front of the bytes

left_shorter : (v : ℕ) (bytes : List ℕ) → length (digits_after v bytes).1 ≤ length bytes
left_shorter v [] = omega arith
left_shorter v (c ∷ cs) = by (is_ascii_digit c) (left_shorter (capped (v * 10 + (c - 48))) cs)
  where
    by : (b : Bool) → length (digits_after (capped (v * 10 + (c - 48))) cs).1 ≤ length cs
        → length (cond b (digits_after (capped (v * 10 + (c - 48))) cs) (v, c ∷ cs)).1 ≤ length (c ∷ cs)
    by true h = omega (arith, h)
    by false h = omega arith

-- the digits that end within a front of the bytes end there in the bytes too
ended_in_front : (n k v w : ℕ) (bytes : List ℕ) → k < n → digits_after v (take n bytes) ≡ (w, drop k (take n bytes))
    → digits_after v bytes ≡ (w, drop k bytes)
ended_in_front zero k v w bytes h e = absurd (omega (arith, h))
ended_in_front (suc n) k v w [] h e = e
ended_in_front (suc n) zero v w (c ∷ cs) h e =
    by (is_ascii_digit c) (left_shorter (capped (v * 10 + (c - 48))) (take n cs)) e
  where
    by : (b : Bool) → length (digits_after (capped (v * 10 + (c - 48))) (take n cs)).1 ≤ length (take n cs)
        → cond b (digits_after (capped (v * 10 + (c - 48))) (take n cs)) (v, c ∷ take n cs) ≡ (w, c ∷ take n cs)
        → cond b (digits_after (capped (v * 10 + (c - 48))) cs) (v, c ∷ cs) ≡ (w, c ∷ cs)
    by true short same = absurd (omega (arith, short, ap (λ found. length found.1) same))
    by false short same = ap (λ found. (found.0, c ∷ cs)) same
ended_in_front (suc n) (suc k) v w (c ∷ cs) h e =
    by (is_ascii_digit c) (ended_in_front n k (capped (v * 10 + (c - 48))) w cs (omega (arith, h))) e
  where
    by : (b : Bool) → (digits_after (capped (v * 10 + (c - 48))) (take n cs) ≡ (w, drop k (take n cs))
        → digits_after (capped (v * 10 + (c - 48))) cs ≡ (w, drop k cs))
        → cond b (digits_after (capped (v * 10 + (c - 48))) (take n cs)) (v, c ∷ take n cs) ≡ (w, drop k (take n cs))
        → cond b (digits_after (capped (v * 10 + (c - 48))) cs) (v, c ∷ cs) ≡ (w, drop k cs)
    by true more same = more same
    by false more same = absurd (omega (arith, length-drop k (take n cs), ap (λ found. length found.1) same))

counted : (k w : ℕ) (bytes : List ℕ) → 0 < k → k ≤ length bytes → digits_after 0 bytes ≡ (w, drop k bytes)
    → number_at bytes ≡ Some (w, drop k bytes)
counted k w [] some inside e = absurd (omega (arith, some, inside))
counted k w (c ∷ cs) some inside e = by (is_ascii_digit c) e
  where
    by : (b : Bool) → cond b (digits_after (capped (0 * 10 + (c - 48))) cs) (0, c ∷ cs) ≡ (w, drop k (c ∷ cs))
        → cond b (Some (cond b (digits_after (capped (0 * 10 + (c - 48))) cs) (0, c ∷ cs))) None
        ≡ Some (w, drop k (c ∷ cs))
    by true same = ap (λ found. Some found) same
    by false same = absurd (omega (arith, some, inside, length-drop k (c ∷ cs), ap (λ found. length found.1) same))

-- where the front has one byte more than these digits, if that many are there, they are the number
pub number_in_front : (n k w : ℕ) (bytes : List ℕ) → 0 < k → k ≤ length (take n bytes) → k < n ⊎ length bytes ≤ n
    → digits_after 0 (take n bytes) ≡ (w, drop k (take n bytes)) → number_at bytes ≡ Some (w, drop k bytes)
number_in_front n k w bytes some inside (inl within) e =
    counted k w bytes some (omega (arith, inside, length-take n bytes)) (ended_in_front n k 0 w bytes within e)
number_in_front n k w bytes some inside (inr all) e =
    let whole = take_all n bytes all in
    counted k w bytes some (omega (arith, inside, ap length whole))
    (sym (ap (digits_after 0) whole) ∙ e ∙ ap (λ text. (w, drop k text)) whole)

-- Up to four digits, of which it was found how many they are

short_found : (bytes : List ℕ) (p q r s t : ℕ) → 5 ≤ length bytes → DigitIn (get_or bytes 0 0) p
    → DigitIn (get_or bytes 1 0) q → DigitIn (get_or bytes 2 0) r → DigitIn (get_or bytes 3 0) s → DigitIn (get_or bytes 4 0) t
    → nat_lt p 10 ≡ true → (((nat_lt q 10 && nat_lt r 10) && nat_lt s 10) && nat_lt t 10) ≡ false
    → number_at bytes ≡ Some (value_of p q r s (nat_lt q 10) (nat_lt r 10) (nat_lt s 10), rest_of bytes q r s)
short_found bytes p q r s t long da db dc dd de one h =
    four_passed bytes p q r s long da db dc dd one
    ∙ ap (λ found. Some found) (four_end bytes (value_of p q r s (nat_lt q 10) (nat_lt r 10) (nat_lt s 10)) q r s t long db dc dd de h)

-- the number of a count of digits, and what stands behind them
abbrev by_count : (bytes : List ℕ) (p q r s : ℕ) (count : ℕ) → ℕ → Type 0
by_count bytes p q r s value count =
    (AllByRecursion (λ x. x < 10) (take count (p ∷ q ∷ r ∷ s ∷ [])) → value ≡ number_by 0 (take count (p ∷ q ∷ r ∷ s ∷ [])))
    → number_at bytes ≡ Some (value, drop count bytes)

pub short_is : (bytes : List ℕ) (p q r s t u v w value count : ℕ) → 5 ≤ length bytes → DigitIn (get_or bytes 0 0) p
    → DigitIn (get_or bytes 1 0) q → DigitIn (get_or bytes 2 0) r → DigitIn (get_or bytes 3 0) s → DigitIn (get_or bytes 4 0) t
    → 1 ≤ count → count ≤ 4 → count ≡ digits_first (p ∷ q ∷ r ∷ s ∷ t ∷ u ∷ v ∷ w ∷ []) → by_count bytes p q r s value count
short_is bytes p q r s t u v w value count long da db dc dd de some few same =
    by (nat_lt p 10) (nat_lt q 10) (nat_lt r 10) (nat_lt s 10) (nat_lt t 10) refl refl refl refl refl same
  where
    more : ℕ
    more = digits_first (u ∷ v ∷ w ∷ [])

    shape : (x y z : Bool) → Option (ℕ × List ℕ)
    shape x y z = Some (value_of p q r s x y z, drop (1 + from_bool x + from_bool (x && y) + from_bool ((x && y) && z)) bytes)

    found : nat_lt p 10 ≡ true → (((nat_lt q 10 && nat_lt r 10) && nat_lt s 10) && nat_lt t 10) ≡ false
        → number_at bytes ≡ shape (nat_lt q 10) (nat_lt r 10) (nat_lt s 10)
    found one h = short_found bytes p q r s t long da db dc dd de one h

    by : (x y z w e : Bool) → nat_lt p 10 ≡ x → nat_lt q 10 ≡ y → nat_lt r 10 ≡ z → nat_lt s 10 ≡ w → nat_lt t 10 ≡ e
        → count ≡ cond x (1 + cond y (1 + cond z (1 + cond w (1 + cond e (1 + more) 0) 0) 0) 0) 0 → by_count bytes p q r s value count
    by false y z w e px qx rx sx tx is = λ valued. absurd (omega (arith, some, is))
    by true false z w e px qx rx sx tx is = subst (by_count bytes p q r s value) (sym is) (λ valued.
        found px (ap (λ b. ((b && nat_lt r 10) && nat_lt s 10) && nat_lt t 10) qx)
        ∙ ap (λ b. shape b (nat_lt r 10) (nat_lt s 10)) qx
        ∙ ap (λ n. Some (n, drop 1 bytes)) (omega arith ∙ sym (valued (ltb-true p 10 px, tt))))
    by true true false w e px qx rx sx tx is = subst (by_count bytes p q r s value) (sym is) (λ valued.
        found px (ap₂ (λ a b. ((a && b) && nat_lt s 10) && nat_lt t 10) qx rx)
        ∙ ap₂ (λ a b. shape a b (nat_lt s 10)) qx rx
        ∙ ap (λ n. Some (n, drop 2 bytes)) (omega arith ∙ sym (valued (ltb-true p 10 px, (ltb-true q 10 qx, tt)))))
    by true true true false e px qx rx sx tx is = subst (by_count bytes p q r s value) (sym is) (λ valued.
        found px (rw (qx, rx, sx) refl)
        ∙ ap₂ (λ a b. shape a b (nat_lt s 10)) qx rx ∙ ap (shape true true) sx
        ∙ ap (λ n. Some (n, drop 3 bytes)) (omega arith ∙ sym (valued (ltb-true p 10 px, (ltb-true q 10 qx, (ltb-true r 10 rx, tt))))))
    by true true true true false px qx rx sx tx is = subst (by_count bytes p q r s value) (sym is) (λ valued.
        found px (rw (qx, rx, sx, tx) refl)
        ∙ ap₂ (λ a b. shape a b (nat_lt s 10)) qx rx ∙ ap (shape true true) sx
        ∙ ap (λ n. Some (n, drop 4 bytes)) (omega arith ∙ sym (valued (ltb-true p 10 px, (ltb-true q 10 qx, (ltb-true r 10 rx, (ltb-true s 10 sx, tt)))))))
    by true true true true true px qx rx sx tx is = λ valued. absurd (omega (arith, few, is))

-- the digit of a byte
pub digit_xor : (c : ℕ) → c < 256 → DigitIn c (bit_xor c 48)
digit_xor c h = record {
  is = agree_below_at (λ b. nat_lt (bit_xor b 48) 10) is_ascii_digit 256 c refl h;
  value = by (nat_lt (bit_xor c 48) 10) refl
      (agree_below_at (λ b. cond (nat_lt (bit_xor b 48) 10) (b == bit_xor b 48 + 48) true) (λ b. true) 256 c refl h);
}
  where
    by : (b : Bool) → nat_lt (bit_xor c 48) 10 ≡ b → cond (nat_lt (bit_xor c 48) 10) (c == bit_xor c 48 + 48) true ≡ true
        → nat_lt (bit_xor c 48) 10 ≡ true → c ≡ bit_xor c 48 + 48
    by b e same one = eqb-true c (bit_xor c 48 + 48) (ap (λ t. cond t (c == bit_xor c 48 + 48) true) (sym one) ∙ same)

pub short_number : (bytes : List ℕ) (front digits count value : ℕ) → 8 ≤ length bytes → ((i : ℕ) → get_or bytes i 0 < 256)
    → front ≡ from_le_bytes w64 (get_or bytes 0 0 ∷ get_or bytes 1 0 ∷ get_or bytes 2 0 ∷ get_or bytes 3 0 ∷ get_or bytes 4 0 ∷ get_or bytes 5 0 ∷ get_or bytes 6 0 ∷ get_or bytes 7 0 ∷ [])
    → digits ≡ bit_xor front 3472328296227680304
    → ((lanes : List ℕ) → Bytes lanes → length lanes ≡ 8 → digits ≡ number_l 256 lanes → count ≡ digits_first lanes)
    → 1 ≤ count → count ≤ 4
    → ((a b c d rest : ℕ) → AllByRecursion (λ x. x < 10) (take count (a ∷ b ∷ c ∷ d ∷ [])) → Bytes (a ∷ b ∷ c ∷ d ∷ [])
    → digits ≡ number_l 256 (a ∷ b ∷ c ∷ d ∷ rest ∷ []) → value ≡ number_by 0 (take count (a ∷ b ∷ c ∷ d ∷ [])))
    → number_at bytes ≡ Some (value, drop count bytes)
short_number bytes front digits count value long small is xored counted some few valued =
    let at : ℕ → ℕ = λ i. get_or bytes i 0 in
    let d : ℕ → ℕ = λ i. bit_xor (at i) 48 in
    let zero_digit : 48 < 256 = omega arith in
    let lane : (i : ℕ) → d i < 256 = λ i. xor_of_8 (at i) 48 (small i) zero_digit in
    let digit : (i : ℕ) → DigitIn (at i) (d i) = λ i. digit_xor (at i) (small i) in
    let whole : digits ≡ number_l 256 (d 0 ∷ d 1 ∷ d 2 ∷ d 3 ∷ d 4 ∷ d 5 ∷ d 6 ∷ d 7 ∷ []) =
    xored ∙ ap (λ n. bit_xor n 3472328296227680304) (is ∙ omega arith)
    ∙ xor_lanes (at 0 ∷ at 1 ∷ at 2 ∷ at 3 ∷ at 4 ∷ at 5 ∷ at 6 ∷ at 7 ∷ []) (48 ∷ 48 ∷ 48 ∷ 48 ∷ 48 ∷ 48 ∷ 48 ∷ 48 ∷ []) refl
    (eight (small 0) (small 1) (small 2) (small 3) (small 4) (small 5) (small 6) (small 7))
    (eight zero_digit zero_digit zero_digit zero_digit zero_digit zero_digit zero_digit zero_digit) in
    let rest = d 4 + 256 * (d 5 + 256 * (d 6 + 256 * d 7)) in
    short_is bytes (d 0) (d 1) (d 2) (d 3) (d 4) (d 5) (d 6) (d 7) value count (omega (arith, long)) (digit 0) (digit 1) (digit 2)
    (digit 3) (digit 4) some few
    (counted (d 0 ∷ d 1 ∷ d 2 ∷ d 3 ∷ d 4 ∷ d 5 ∷ d 6 ∷ d 7 ∷ []) (eight (lane 0) (lane 1) (lane 2) (lane 3) (lane 4) (lane 5) (lane 6) (lane 7)) refl whole)
    (λ below. valued (d 0) (d 1) (d 2) (d 3) rest below (lane 0, (lane 1, (lane 2, (lane 3, tt)))) (whole ∙ omega arith))

-- what a mask leaves of how many digits there are: nothing, or all where they are one to four
abbrev pub Counted : ℕ → ℕ → Type 0
Counted count mask = ((mask ≡ 0) × (bit_and count mask ≡ 0)) ⊎ ((bit_and count mask ≡ count) × (1 ≤ count) × (count ≤ 4))

pub counted_by : (count mask : ℕ) → count ≤ 8 → IsMask mask → mask < 18446744073709551616
    → bit_and ((count + 18446744073709551615) % 18446744073709551616) mask ≤ 3 → Counted count mask
counted_by count mask few (inl none) fits e = inl (none, ap (bit_and count) none ∙ and_zero_r count)
counted_by zero mask few (inr keeps) fits e =
    let all : bit_and 18446744073709551615 mask ≡ mask = and_comm 18446744073709551615 mask ∙ and_mask mask 64 ∙ omega (arith, fits) in
    absurd (omega (arith, e, all, keeps 15 (omega arith), and_le_r 15 mask))
counted_by (suc n) mask few (inr keeps) fits e =
    let less : (suc n + 18446744073709551615) % 18446744073709551616 ≡ n = omega (arith, few) in
    let left = ap (λ k. bit_and k mask) less ∙ keeps n (omega (arith, few)) in
    inr (keeps (suc n) (omega (arith, few)), omega arith, omega (arith, e, left))

pub few_counted : (count mask : ℕ) → Counted count mask → bit_and count mask ≤ 4
few_counted count mask (inl none) = omega (arith, none.1)
few_counted count mask (inr all) = omega (arith, all.0, all.2)
