-- The longest prefix of bytes that a text of a language begins with, from byte to byte.
use Rattle.iloc_lint.proofs.Common.{◌≡◌, ℕ, zero, suc, ◌+◌, ◌-◌, ◌*◌, ◌<◌, ◌≤◌, max, Bool, true, false, cond, not, ◌&&◌, ◌⊎◌, List, [], ◌∷◌, ◌++◌, length, take, drop, nat_lt, ◌==◌, sym, refl, ap, ◌∙◌, subst, inl, inr, true≢false, arith, eqb-false, eqb-true, ltb-false, ltb-true, nat_tests, digit_value, is_ascii_digit, MAX_NUMBER, digit_from_value, digit_value_is, digit_value_small, Blanks, OptionalComment, SomeBlanks, Text, is_blank, ◌⋅◌, Longest, NumberAt, SmallNumber, blanks_in, comment_in, common_in, digits_in, starts}
use Rattle.std.specs.Str.Parse.{AllDigits, digits_value_after}

-- From byte to byte

pub step : {P Q : List ℕ → Type 0} (c : ℕ) (cs : List ℕ) (k : ℕ) → ((w : List ℕ) → Q w → P (c ∷ w))
    → ((w : List ℕ) → P (c ∷ w) → Q w) → Longest Q cs k → Longest P (c ∷ cs) (suc k)
step c cs k to from l = grind arith

-- no text of the language begins so
pub stop : {P : List ℕ → Type 0} (c : ℕ) (cs : List ℕ) → (w : List ℕ) → P w → ((w : List ℕ) → P (c ∷ w) → ⊥)
    → Longest P (c ∷ cs) 0
stop c cs w some dead = grind arith

pub at_end : {P : List ℕ → Type 0} (w : List ℕ) → P w → Longest P [] 0
at_end {P} w some = record { within = omega arith; goes_on = (w, some); longest = λ j tail h p. h }

-- the same language, of texts that begin so
pub same_start : {P Q : List ℕ → Type 0} (c : ℕ) (cs : List ℕ) (k : ℕ) → ((w : List ℕ) → Q w → P w)
    → ((w : List ℕ) → P (c ∷ w) → Q (c ∷ w)) → Longest Q (c ∷ cs) k → Longest P (c ∷ cs) k
same_start c cs k to from l = grind arith

pub same_end : {P Q : List ℕ → Type 0} (k : ℕ) → ((w : List ℕ) → Q w → P w) → Longest Q [] k → Longest P [] k
same_end k to l = grind arith

-- the same language
pub same : {P Q : List ℕ → Type 0} {bytes : List ℕ} {k : ℕ} → ((w : List ℕ) → Q w → P w)
    → ((w : List ℕ) → P w → Q w) → Longest Q bytes k → Longest P bytes k
same to from l = grind arith

-- a text of one language or of another
pub either : {P Q : List ℕ → Type 0} {bytes : List ℕ} {k m : ℕ} → Longest P bytes k → Longest Q bytes m
    → Longest (λ w. P w ⊎ Q w) bytes (max k m)
either {P} {Q} {bytes} {k} {m} a b = record {
  within = omega (arith, a.within, b.within);
  goes_on = by (nat_lt k m) refl;
  longest = further;
}
  where
    by : (t : Bool) → nat_lt k m ≡ t → (tail : List ℕ) × (P (take (max k m) bytes ++ tail) ⊎ Q (take (max k m) bytes ++ tail))
    by true e =
        let more : m ≡ max k m = grind (arith, nat_tests) in
        subst (λ n. (tail : List ℕ) × (P (take n bytes ++ tail) ⊎ Q (take n bytes ++ tail))) more (b.goes_on.0, inr b.goes_on.1)
    by false e =
        let more : k ≡ max k m = grind (arith, nat_tests) in
        subst (λ n. (tail : List ℕ) × (P (take n bytes ++ tail) ⊎ Q (take n bytes ++ tail))) more (a.goes_on.0, inl a.goes_on.1)

    further : (j : ℕ) (tail : List ℕ) → j ≤ length bytes → P (take j bytes ++ tail) ⊎ Q (take j bytes ++ tail) → j ≤ max k m
    further j tail h (inl p) = omega (arith, a.longest j tail h p)
    further j tail h (inr q) = omega (arith, b.longest j tail h q)

pub at_length : {P : List ℕ → Type 0} {bytes : List ℕ} {k m : ℕ} → k ≡ m → Longest P bytes k → Longest P bytes m
at_length {P} {bytes} e l = subst (Longest P bytes) e l

-- Blanks

-- no text of the language begins with a blank
abbrev pub NoBlank : (List ℕ → Type 0) → Type 0
NoBlank Q = (c : ℕ) (w : List ℕ) → is_blank c ≡ true → Q (c ∷ w) → ⊥

-- a blank less
blanks_less : {Q : List ℕ → Type 0} → NoBlank Q → (c : ℕ) (w : List ℕ) → is_blank c ≡ true → (Blanks ⋅ Q) (c ∷ w)
    → (Blanks ⋅ Q) w
blanks_less {Q} never c w e j = by j.front j.rest j.first j.second j.whole
  where
    by : (front rest : List ℕ) → Blanks front → Q rest → c ∷ w ≡ front ++ rest → (Blanks ⋅ Q) w
    by [] rest h q whole = absurd (never c w e (subst Q (sym whole) q))
    by (x ∷ xs) rest h q whole = record { front = xs; rest = rest; first = h.1; second = q; whole = cc }

pub blanks_none : {Q : List ℕ → Type 0} (c : ℕ) (w : List ℕ) → is_blank c ≡ false → (Blanks ⋅ Q) (c ∷ w) → Q (c ∷ w)
blanks_none {Q} c w e j = by j.front j.rest j.first j.second j.whole
  where
    by : (front rest : List ℕ) → Blanks front → Q rest → c ∷ w ≡ front ++ rest → Q (c ∷ w)
    by [] rest h q whole = subst Q (sym whole) q
    by (x ∷ xs) rest h q whole =
        let same : c ≡ x = cc in
        let clash : true ≡ false = sym h.0 ∙ ap is_blank (sym same) ∙ e in absurd (true≢false clash)

blanks_more : {Q : List ℕ → Type 0} (c : ℕ) (w : List ℕ) → is_blank c ≡ true → (Blanks ⋅ Q) w → (Blanks ⋅ Q) (c ∷ w)
blanks_more c w e j = record {
  front = c ∷ j.front;
  rest = j.rest;
  first = (e, j.first);
  second = j.second;
  whole = ap (λ t. c ∷ t) j.whole;
}

pub no_blanks : {Q : List ℕ → Type 0} (w : List ℕ) → Q w → (Blanks ⋅ Q) w
no_blanks w q = record { front = []; rest = w; first = tt; second = q; whole = refl }

pub blanks_along : {Q : List ℕ → Type 0} → NoBlank Q → (bytes : List ℕ) (k : ℕ)
    → Longest Q (drop (blanks_in bytes) bytes) k → Longest (Blanks ⋅ Q) bytes (blanks_in bytes + k)
blanks_along never [] k l = at_length (omega arith) (same_end k no_blanks l)
blanks_along {Q} never (c ∷ cs) k l = by (is_blank c) refl (blanks_along never cs k) l
  where
    by : (b : Bool) → is_blank c ≡ b
        → (Longest Q (drop (blanks_in cs) cs) k → Longest (Blanks ⋅ Q) cs (blanks_in cs + k))
        → Longest Q (drop (cond b (suc (blanks_in cs)) 0) (c ∷ cs)) k
        → Longest (Blanks ⋅ Q) (c ∷ cs) (cond b (suc (blanks_in cs)) 0 + k)
    by true e again m = at_length (omega arith)
        (step c cs (blanks_in cs + k) (λ w j. blanks_more c w e j) (λ w j. blanks_less never c w e j) (again m))
    by false e again m = at_length (omega arith) (same_start c cs k no_blanks (λ w j. blanks_none c w e j) m)

pub some_less : {Q : List ℕ → Type 0} (c : ℕ) (w : List ℕ) → (SomeBlanks ⋅ Q) (c ∷ w)
    → (is_blank c ≡ true) × (Blanks ⋅ Q) w
some_less {Q} c w j = by j.front j.rest j.first j.second j.whole
  where
    by : (front rest : List ℕ) → SomeBlanks front → Q rest → c ∷ w ≡ front ++ rest
        → (is_blank c ≡ true) × (Blanks ⋅ Q) w
    by [] rest h q whole = absurd (omega (arith, h.0))
    by (x ∷ xs) rest h q whole =
        let same : x ≡ c = cc in
        (ap is_blank (sym same) ∙ h.1.0, record { front = xs; rest = rest; first = h.1.1; second = q; whole = cc })

pub some_more : {Q : List ℕ → Type 0} (c : ℕ) (w : List ℕ) → is_blank c ≡ true → (Blanks ⋅ Q) w
    → (SomeBlanks ⋅ Q) (c ∷ w)
some_more c w e j = record {
  front = c ∷ j.front;
  rest = j.rest;
  first = (omega arith, (e, j.first));
  second = j.second;
  whole = ap (λ t. c ∷ t) j.whole;
}

more_than_none : (n : ℕ) → nat_lt 0 (suc n) ≡ true
more_than_none n = grind (arith, nat_tests)

pub some_along : {Q : List ℕ → Type 0} → NoBlank Q → (bytes : List ℕ) (k : ℕ) → nat_lt 0 (blanks_in bytes) ≡ true
    → Longest Q (drop (blanks_in bytes) bytes) k → Longest (SomeBlanks ⋅ Q) bytes (blanks_in bytes + k)
some_along never [] k some l = absurd (true≢false (sym some))
some_along {Q} never (c ∷ cs) k some l = by (is_blank c) refl some l
  where
    by : (b : Bool) → is_blank c ≡ b → nat_lt 0 (cond b (suc (blanks_in cs)) 0) ≡ true
        → Longest Q (drop (cond b (suc (blanks_in cs)) 0) (c ∷ cs)) k
        → Longest (SomeBlanks ⋅ Q) (c ∷ cs) (cond b (suc (blanks_in cs)) 0 + k)
    by true e s m = at_length (omega arith)
        (step c cs (blanks_in cs + k) (λ w j. some_more c w e j) (λ w j. (some_less c w j).1) (blanks_along never cs k m))
    by false e s m = absurd (true≢false (sym s))

pub some_stop : {Q : List ℕ → Type 0} (q : List ℕ) → Q q → (bytes : List ℕ) → nat_lt 0 (blanks_in bytes) ≡ false
    → Longest (SomeBlanks ⋅ Q) bytes (blanks_in bytes)
some_stop {Q} q is [] none = at_end (32 ∷ q) (some_more 32 q refl (no_blanks {Q = Q} q is))
some_stop {Q} q is (c ∷ cs) none = by (is_blank c) refl none
  where
    by : (b : Bool) → is_blank c ≡ b → nat_lt 0 (cond b (suc (blanks_in cs)) 0) ≡ false
        → Longest (SomeBlanks ⋅ Q) (c ∷ cs) (cond b (suc (blanks_in cs)) 0)
    by true e s = absurd (true≢false (sym (more_than_none (blanks_in cs)) ∙ s))
    by false e s = stop c cs (32 ∷ q) (some_more 32 q refl (no_blanks {Q = Q} q is))
        (λ w j. absurd (true≢false (sym (some_less c w j).0 ∙ e)))

-- A text

text_less : {Q : List ℕ → Type 0} (t : ℕ) (ts : List ℕ) (w : List ℕ) → (Text (t ∷ ts) ⋅ Q) (t ∷ w) → (Text ts ⋅ Q) w
text_less t ts w j = grind arith

text_more : {Q : List ℕ → Type 0} (t : ℕ) (ts : List ℕ) (w : List ℕ) → (Text ts ⋅ Q) w → (Text (t ∷ ts) ⋅ Q) (t ∷ w)
text_more t ts w j = grind arith

pub some_text : {Q : List ℕ → Type 0} (ts q : List ℕ) → Q q → (Text ts ⋅ Q) (ts ++ q)
some_text ts q is = record { front = ts; rest = q; first = refl; second = is; whole = refl }

pub text_first : {Q : List ℕ → Type 0} (t c : ℕ) (ts w : List ℕ) → (Text (t ∷ ts) ⋅ Q) (c ∷ w) → c ≡ t
text_first t c ts w j =
    let e : c ∷ w ≡ t ∷ (ts ++ j.rest) = j.whole ∙ ap (λ f. f ++ j.rest) j.first in cc

pub text_nothing : {Q : List ℕ → Type 0} (w : List ℕ) → (Text [] ⋅ Q) w → Q w
text_nothing {Q} w j = subst Q (sym (j.whole ∙ ap (λ f. f ++ j.rest) j.first)) j.second

pub text_along : {Q : List ℕ → Type 0} (text bytes : List ℕ) (k : ℕ) → common_in text bytes ≡ length text
    → Longest Q (drop (length text) bytes) k → Longest (Text text ⋅ Q) bytes (length text + k)
text_along {Q} [] bytes k all l = at_length (omega arith) (same (λ w q. some_text [] w q) text_nothing l)
text_along (t ∷ ts) [] k all l = absurd (omega arith)
text_along {Q} (t ∷ ts) (c ∷ cs) k all l = by (c == t) refl (λ a. text_along ts cs k a l) all
  where
    by : (b : Bool) → (c == t) ≡ b
        → (common_in ts cs ≡ length ts → Longest (Text ts ⋅ Q) cs (length ts + k))
        → cond b (suc (common_in ts cs)) 0 ≡ suc (length ts)
        → Longest (Text (t ∷ ts) ⋅ Q) (c ∷ cs) (length (t ∷ ts) + k)
    by true e again a = subst (λ x. Longest (Text (t ∷ ts) ⋅ Q) (x ∷ cs) (length (t ∷ ts) + k)) (sym (eqb-true c t e))
        (at_length (omega arith) (step t cs (length ts + k) (text_more t ts) (text_less t ts) (again (omega arith))))
    by false e again a = absurd (omega arith)

pub text_stop : {Q : List ℕ → Type 0} (q : List ℕ) → Q q → (text bytes : List ℕ) → common_in text bytes < length text
    → Longest (Text text ⋅ Q) bytes (common_in text bytes)
text_stop q is [] bytes less = absurd (omega arith)
text_stop q is (t ∷ ts) [] less = at_end ((t ∷ ts) ++ q) (some_text (t ∷ ts) q is)
text_stop {Q} q is (t ∷ ts) (c ∷ cs) less = by (c == t) refl (text_stop q is ts cs) less
  where
    by : (b : Bool) → (c == t) ≡ b
        → (common_in ts cs < length ts → Longest (Text ts ⋅ Q) cs (common_in ts cs)) → cond b (suc (common_in ts cs)) 0 < suc (length ts)
        → Longest (Text (t ∷ ts) ⋅ Q) (c ∷ cs) (cond b (suc (common_in ts cs)) 0)
    by true e again a = subst (λ x. Longest (Text (t ∷ ts) ⋅ Q) (x ∷ cs) (suc (common_in ts cs))) (sym (eqb-true c t e))
        (step t cs (common_in ts cs) (text_more t ts) (text_less t ts) (again (omega arith)))
    by false e again a = stop c cs ((t ∷ ts) ++ q) (some_text (t ∷ ts) q is)
        (λ w j. eqb-false c t e (text_first t c ts w j))

-- Numbers

-- no text of the language begins with a digit
abbrev pub NoDigit : (List ℕ → Type 0) → Type 0
NoDigit Q = (c : ℕ) (w : List ℕ) → is_ascii_digit c ≡ true → Q (c ∷ w) → ⊥

-- digits after those of a number, within the limit
abbrev DigitsAfter : ℕ → List ℕ → Type 0
DigitsAfter value ds = AllDigits 10 ds × (digits_value_after 10 value ds ≤ MAX_NUMBER)

-- more digits make a number no smaller
digits_grow : (n : ℕ) (ds : List ℕ) → n ≤ digits_value_after 10 n ds
digits_grow n [] = omega arith
digits_grow n (c ∷ cs) = omega (arith, digits_grow (n * 10 + digit_value c) cs)

digits_less : {Q : List ℕ → Type 0} → NoDigit Q → (v c : ℕ) (w : List ℕ) → is_ascii_digit c ≡ true
    → (DigitsAfter v ⋅ Q) (c ∷ w) → (DigitsAfter (v * 10 + digit_value c) ⋅ Q) w
digits_less {Q} never v c w e j = by j.front j.rest j.first j.second j.whole
  where
    by : (front rest : List ℕ) → DigitsAfter v front → Q rest → c ∷ w ≡ front ++ rest
        → (DigitsAfter (v * 10 + digit_value c) ⋅ Q) w
    by [] rest h q whole = absurd (never c w e (subst Q (sym whole) q))
    by (x ∷ xs) rest h q whole = let same : x ≡ c = cc in record {
      front = xs;
      rest = rest;
      first = (h.0.1, subst (λ d. digits_value_after 10 (v * 10 + digit_value d) xs ≤ MAX_NUMBER) same h.1);
      second = q;
      whole = cc;
    }

digits_none : {Q : List ℕ → Type 0} (v c : ℕ) (w : List ℕ) → is_ascii_digit c ≡ false → (DigitsAfter v ⋅ Q) (c ∷ w)
    → Q (c ∷ w)
digits_none {Q} v c w e j = by j.front j.rest j.first j.second j.whole
  where
    by : (front rest : List ℕ) → DigitsAfter v front → Q rest → c ∷ w ≡ front ++ rest → Q (c ∷ w)
    by [] rest h q whole = subst Q (sym whole) q
    by (x ∷ xs) rest h q whole =
        let same : c ≡ x = cc in
        absurd (true≢false (sym (digit_from_value x h.0.0) ∙ ap is_ascii_digit (sym same) ∙ e))

digits_more : {Q : List ℕ → Type 0} (v c : ℕ) (w : List ℕ) → is_ascii_digit c ≡ true
    → (DigitsAfter (v * 10 + digit_value c) ⋅ Q) w → (DigitsAfter v ⋅ Q) (c ∷ w)
digits_more v c w e j = record {
  front = c ∷ j.front;
  rest = j.rest;
  first = ((digit_value_small c e, j.first.0), j.first.1);
  second = j.second;
  whole = ap (λ t. c ∷ t) j.whole;
}

no_digits : {Q : List ℕ → Type 0} (v : ℕ) → v ≤ MAX_NUMBER → (w : List ℕ) → Q w → (DigitsAfter v ⋅ Q) w
no_digits v small w q = record { front = []; rest = w; first = (tt, small); second = q; whole = refl }

-- how many digits follow, by what the first byte is
abbrev digits_by : Bool → Bool → ℕ → ℕ
digits_by digit above more = cond digit (cond above 0 (suc more)) 0

pub digits_along : {Q : List ℕ → Type 0} → NoDigit Q → (v : ℕ) → v ≤ MAX_NUMBER → (bytes : List ℕ) (k : ℕ)
    → starts is_ascii_digit (drop (digits_in v bytes) bytes) ≡ false
    → Longest Q (drop (digits_in v bytes) bytes) k → Longest (DigitsAfter v ⋅ Q) bytes (digits_in v bytes + k)
digits_along never v small [] k ends l = at_length (omega arith) (same_end k (no_digits v small) l)
digits_along {Q} never v small (c ∷ cs) k ends l =
    by (is_ascii_digit c) (nat_lt MAX_NUMBER (v * 10 + (c - 48))) refl refl
    (λ small. digits_along never (v * 10 + (c - 48)) small cs k) ends l
  where
    more : ℕ
    more = digits_in (v * 10 + (c - 48)) cs

    by : (digit above : Bool) → is_ascii_digit c ≡ digit → nat_lt MAX_NUMBER (v * 10 + (c - 48)) ≡ above
        → (v * 10 + (c - 48) ≤ MAX_NUMBER → starts is_ascii_digit (drop more cs) ≡ false → Longest Q (drop more cs) k
        → Longest (DigitsAfter (v * 10 + (c - 48)) ⋅ Q) cs (more + k))
        → starts is_ascii_digit (drop (digits_by digit above more) (c ∷ cs)) ≡ false
        → Longest Q (drop (digits_by digit above more) (c ∷ cs)) k
        → Longest (DigitsAfter v ⋅ Q) (c ∷ cs) (digits_by digit above more + k)
    by false above e a again s m = at_length (omega arith)
        (same_start c cs k (no_digits v small) (λ w j. digits_none v c w e j) m)
    by true true e a again s m = absurd (true≢false (sym e ∙ s))
    by true false e a again s m =
        let value = digit_value_is c e in
        let next : v * 10 + (c - 48) ≡ v * 10 + digit_value c = ap (λ d. v * 10 + d) (sym value) in
        let rest = again (ltb-false _ _ a) s m in
        at_length (omega arith)
        (step c cs (more + k) (λ w j. digits_more v c w e j)
        (λ w j. digits_less never v c w e j)
        (subst (λ n. Longest (DigitsAfter n ⋅ Q) cs (more + k)) next rest))

pub digits_stop : {Q : List ℕ → Type 0} → NoDigit Q → (q : List ℕ) → Q q → (v : ℕ) → v ≤ MAX_NUMBER → (bytes : List ℕ)
    → starts is_ascii_digit (drop (digits_in v bytes) bytes) ≡ true
    → Longest (DigitsAfter v ⋅ Q) bytes (digits_in v bytes)
digits_stop never q is v small [] ends = absurd (true≢false (sym ends))
digits_stop {Q} never q is v small (c ∷ cs) ends =
    by (is_ascii_digit c) (nat_lt MAX_NUMBER (v * 10 + (c - 48))) refl refl
    (λ below. digits_stop never q is (v * 10 + (c - 48)) below cs) ends
  where
    more : ℕ
    more = digits_in (v * 10 + (c - 48)) cs

    next : is_ascii_digit c ≡ true → v * 10 + (c - 48) ≡ v * 10 + digit_value c
    next e = ap (λ d. v * 10 + d) (sym (digit_value_is c e))

    dead : is_ascii_digit c ≡ true → nat_lt MAX_NUMBER (v * 10 + (c - 48)) ≡ true → (w : List ℕ)
        → (DigitsAfter v ⋅ Q) (c ∷ w) → ⊥
    dead e a w j =
        let large = ltb-true _ _ a in
        let less = digits_less never v c w e j in
        let grown = digits_grow (v * 10 + digit_value c) less.front in
        let small = less.first.1 in
        omega (arith, next e)

    by : (digit above : Bool) → is_ascii_digit c ≡ digit → nat_lt MAX_NUMBER (v * 10 + (c - 48)) ≡ above
        → (v * 10 + (c - 48) ≤ MAX_NUMBER → starts is_ascii_digit (drop more cs) ≡ true
        → Longest (DigitsAfter (v * 10 + (c - 48)) ⋅ Q) cs more)
        → starts is_ascii_digit (drop (digits_by digit above more) (c ∷ cs)) ≡ true
        → Longest (DigitsAfter v ⋅ Q) (c ∷ cs) (digits_by digit above more)
    by false above e a again s = absurd (true≢false (sym s ∙ e))
    by true true e a again s = stop c cs q (no_digits v small q is) (dead e a)
    by true false e a again s =
        let rest = again (ltb-false _ _ a) s in
        step c cs more (λ w j. digits_more v c w e j)
        (λ w j. digits_less never v c w e j)
        (subst (λ n. Longest (DigitsAfter n ⋅ Q) cs more) (next e) rest)

pub number_less : {Q : List ℕ → Type 0} (c : ℕ) (w : List ℕ) → (SmallNumber ⋅ Q) (c ∷ w)
    → (is_ascii_digit c ≡ true) × (DigitsAfter (0 * 10 + digit_value c) ⋅ Q) w
number_less {Q} c w j = by j.front j.rest j.first j.second j.whole
  where
    by : (front rest : List ℕ) → SmallNumber front → Q rest → c ∷ w ≡ front ++ rest
        → (is_ascii_digit c ≡ true) × (DigitsAfter (0 * 10 + digit_value c) ⋅ Q) w
    by [] rest h q whole = absurd (omega (arith, h.2.0.0))
    by (x ∷ xs) rest h q whole = let same : x ≡ c = cc in (
      ap is_ascii_digit (sym same) ∙ digit_from_value x h.2.0.1.0,
      record {
        front = xs;
        rest = rest;
        first = (
          h.2.0.1.1,
          subst (λ d. digits_value_after 10 (0 * 10 + digit_value d) xs ≤ MAX_NUMBER) same
              (subst (λ n. n ≤ MAX_NUMBER) h.2.1 h.1),
        );
        second = q;
        whole = cc;
      },
    )

number_more : {Q : List ℕ → Type 0} (c : ℕ) (w : List ℕ) → is_ascii_digit c ≡ true
    → (DigitsAfter (0 * 10 + digit_value c) ⋅ Q) w → (SmallNumber ⋅ Q) (c ∷ w)
number_more c w e j = record {
  front = c ∷ j.front;
  rest = j.rest;
  first = (
    digits_value_after 10 (0 * 10 + digit_value c) j.front,
    j.first.1,
    ((omega arith, (digit_value_small c e, j.first.0)), refl),
  );
  second = j.second;
  whole = ap (λ t. c ∷ t) j.whole;
}

pub some_number : {Q : List ℕ → Type 0} (q : List ℕ) → Q q → (SmallNumber ⋅ Q) (48 ∷ q)
some_number q is = number_more 48 q refl (no_digits 0 (omega arith) q is)

first_small : (c : ℕ) → is_ascii_digit c ≡ true → nat_lt MAX_NUMBER (0 * 10 + (c - 48)) ≡ false
first_small c e = grind (arith, nat_tests)

first_within : (c : ℕ) → is_ascii_digit c ≡ true → 0 * 10 + (c - 48) ≤ MAX_NUMBER
first_within c e = ltb-false _ _ (first_small c e)

no_more : (n : ℕ) (b : Bool) → true ≡ (nat_lt 0 (suc n) && not b) → b ≡ false
no_more n true e = absurd (true≢false (e ∙ ap (λ t. t && false) (more_than_none n)))
no_more n false e = refl

still_more : (n : ℕ) (b : Bool) → false ≡ (nat_lt 0 (suc n) && not b) → b ≡ true
still_more n true e = refl
still_more n false e = absurd (true≢false (sym (e ∙ ap (λ t. t && true) (more_than_none n))))

pub number_along : {Q : List ℕ → Type 0} → NoDigit Q → (bytes : List ℕ) (count k : ℕ) → NumberAt bytes count true
    → Longest Q (drop count bytes) k → Longest (SmallNumber ⋅ Q) bytes (count + k)
number_along {Q} never bytes count k at l = by bytes count at.count_is at.whole_is l
  where
    by : (bytes : List ℕ) (count : ℕ) → count ≡ digits_in 0 bytes
        → true ≡ (nat_lt 0 count && not (starts is_ascii_digit (drop count bytes)))
        → Longest Q (drop count bytes) k → Longest (SmallNumber ⋅ Q) bytes (count + k)
    by bytes zero e whole l = absurd (true≢false whole)
    by [] (suc n) e whole l = absurd (omega arith)
    by (c ∷ cs) (suc n) e whole l = here (is_ascii_digit c) refl e
      where
        here : (b : Bool) → is_ascii_digit c ≡ b → suc n ≡ digits_by b (nat_lt MAX_NUMBER (0 * 10 + (c - 48)))
            (digits_in (0 * 10 + (c - 48)) cs) → Longest (SmallNumber ⋅ Q) (c ∷ cs) (suc n + k)
        here false d f = absurd (omega arith)
        here true d f =
            let g : suc n ≡ suc (digits_in (0 * 10 + (c - 48)) cs) =
            f ∙ ap (λ a. cond a 0 (suc (digits_in (0 * 10 + (c - 48)) cs))) (first_small c d) in
            let count_is : n ≡ digits_in (0 * 10 + (c - 48)) cs = omega (arith, g) in
            let ends : starts is_ascii_digit (drop n cs) ≡ false = no_more n (starts is_ascii_digit (drop n cs)) whole in
            let next : 0 * 10 + (c - 48) ≡ 0 * 10 + digit_value c = ap (λ d. 0 * 10 + d) (sym (digit_value_is c d)) in
            let rest = digits_along never (0 * 10 + (c - 48)) (first_within c d) cs k
            (subst (λ m. starts is_ascii_digit (drop m cs) ≡ false) count_is ends)
            (subst (λ m. Longest Q (drop m cs) k) count_is l) in
            at_length (omega (arith, count_is))
            (step c cs (digits_in (0 * 10 + (c - 48)) cs + k) (λ w j. number_more c w d j)
            (λ w j. (number_less c w j).1)
            (subst (λ v. Longest (DigitsAfter v ⋅ Q) cs (digits_in (0 * 10 + (c - 48)) cs + k)) next rest))

pub number_stop : {Q : List ℕ → Type 0} → NoDigit Q → (q : List ℕ) → Q q → (bytes : List ℕ) (count : ℕ)
    → NumberAt bytes count false → Longest (SmallNumber ⋅ Q) bytes count
number_stop {Q} never q is bytes count at =
    subst (Longest (SmallNumber ⋅ Q) bytes) (sym at.count_is)
    (by bytes (at.whole_is ∙ ap (λ n. nat_lt 0 n && not (starts is_ascii_digit (drop n bytes))) at.count_is))
  where
    by : (bytes : List ℕ) → false ≡ (nat_lt 0 (digits_in 0 bytes) && not (starts is_ascii_digit (drop (digits_in 0 bytes) bytes)))
        → Longest (SmallNumber ⋅ Q) bytes (digits_in 0 bytes)
    by [] whole = at_end (48 ∷ q) (some_number q is)
    by (c ∷ cs) whole = here (is_ascii_digit c) (nat_lt MAX_NUMBER (0 * 10 + (c - 48))) refl refl whole
      where
        more : ℕ
        more = digits_in (0 * 10 + (c - 48)) cs

        here : (digit above : Bool) → is_ascii_digit c ≡ digit → nat_lt MAX_NUMBER (0 * 10 + (c - 48)) ≡ above
            → false ≡ (nat_lt 0 (digits_by digit above more)
            && not (starts is_ascii_digit (drop (digits_by digit above more) (c ∷ cs))))
            → Longest (SmallNumber ⋅ Q) (c ∷ cs) (digits_by digit above more)
        here false above d a w = stop c cs (48 ∷ q) (some_number q is)
            (λ w j. absurd (true≢false (sym (number_less c w j).0 ∙ d)))
        here true true d a w = absurd (true≢false (sym a ∙ first_small c d))
        here true false d a w =
            let ends : starts is_ascii_digit (drop more cs) ≡ true = still_more more (starts is_ascii_digit (drop more cs)) w in
            let next : 0 * 10 + (c - 48) ≡ 0 * 10 + digit_value c = ap (λ d. 0 * 10 + d) (sym (digit_value_is c d)) in
            let rest = digits_stop never q is (0 * 10 + (c - 48)) (first_within c d) cs ends in
            step c cs more (λ w j. number_more c w d j)
            (λ w j. (number_less c w j).1)
            (subst (λ v. Longest (DigitsAfter v ⋅ Q) cs more) next rest)

-- Comments

pub no_comment : OptionalComment []
no_comment = tt

comment_first : (c : ℕ) (w : List ℕ) → OptionalComment (c ∷ w) → c ≡ 47
comment_first c [] h = absurd h
comment_first c (d ∷ w) h = h.0

pub comment_no_blank : NoBlank OptionalComment
comment_no_blank c [] blank h = absurd h
comment_no_blank c (d ∷ w) blank h = absurd (true≢false (sym blank ∙ ap is_blank h.0))

pub comment_no_digit : NoDigit OptionalComment
comment_no_digit c [] digit h = absurd h
comment_no_digit c (d ∷ w) digit h = absurd (true≢false (sym digit ∙ ap is_ascii_digit h.0))

-- a slash, and another byte
slash_alone : (c d : ℕ) (cs : List ℕ) → c ≡ 47 → (d ≡ 47 → ⊥) → Longest OptionalComment (c ∷ d ∷ cs) 1
slash_alone c d cs e other = record { within = omega arith; goes_on = (47 ∷ [], (e, refl)); longest = further }
  where
    further : (j : ℕ) (tail : List ℕ) → j ≤ length (c ∷ d ∷ cs) → OptionalComment (take j (c ∷ d ∷ cs) ++ tail) → j ≤ 1
    further (suc (suc j)) tail h p = absurd (other p.1)
    further j tail h p = omega arith

whole_comment : (bytes : List ℕ) → OptionalComment bytes → Longest OptionalComment bytes (length bytes)
whole_comment bytes is = grind arith

pub comment_along : (bytes : List ℕ) → Longest OptionalComment bytes (comment_in bytes)
comment_along [] = at_end [] no_comment
comment_along (c ∷ []) = by (c == 47) refl
  where
    last : c ≡ 47 → Longest OptionalComment (c ∷ []) 1
    last e = record { within = omega arith; goes_on = (47 ∷ [], (e, refl)); longest = λ j tail h p. h }

    by : (b : Bool) → (c == 47) ≡ b → Longest OptionalComment (c ∷ []) (cond b 1 0)
    by true e = last (eqb-true c 47 e)
    by false e = stop c [] [] no_comment (λ w h. eqb-false c 47 e (comment_first c w h))
comment_along (c ∷ d ∷ cs) = by (c == 47) (d == 47) refl refl
  where
    by : (a b : Bool) → (c == 47) ≡ a → (d == 47) ≡ b
        → Longest OptionalComment (c ∷ d ∷ cs) (cond a (cond b (length (c ∷ d ∷ cs)) 1) 0)
    by true true e f = whole_comment (c ∷ d ∷ cs) (eqb-true c 47 e, eqb-true d 47 f)
    by true false e f = slash_alone c d cs (eqb-true c 47 e) (eqb-false d 47 f)
    by false b e f = stop c (d ∷ cs) [] no_comment (λ w h. eqb-false c 47 e (comment_first c w h))
