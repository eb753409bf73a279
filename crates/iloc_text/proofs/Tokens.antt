-- Each token function of the scanner finds a text of its language, and finds each such text again.
use Rattle.iloc_text.proofs.Common.{◌≡◌, ℕ, ◌+◌, ◌-◌, ◌*◌, ◌<◌, Bool, true, false, cond, ◌&&◌, List, [], ◌∷◌, ◌++◌, IfSome, ◌==◌, Some, None, codes, Option, sym, refl, ap, ◌∙◌, subst, ap₂, add-sub_cancel, arith, length-append, eqb-true, take-append_seam, nat_tests, digit_value, is_ascii_digit, AllByRecursion, Arrow, Blanks, Comma, Number, Register, SomeBlanks, Text, is_blank, is_word_byte, ◌⋅◌, after_blanks, after_word, arrow_at, arrow_from, capped, comma_at, comma_from, digits_after, number_at, register_at, some_blanks_at, word_of}
use Rattle.std.specs.Str.Parse.{AllDigits, digits_value_after}
use Rattle.iloc_ops.specs.declared.op.Reg.{Reg}
use Rattle.iloc_text.proofs.Parts.{Before, Before-join, Before-split, starts}

-- Blanks

blanks_read_by : (c : ℕ) (cs : List ℕ) (b : Bool) → is_blank c ≡ b → Before Blanks (after_blanks cs) cs
    → Before Blanks (cond b (after_blanks cs) (c ∷ cs)) (c ∷ cs)
blanks_read_by c cs true e r = record { front = c ∷ r.front; first = (e, r.first); whole = ap (λ t. c ∷ t) r.whole }
blanks_read_by c cs false e r = record { front = []; first = tt; whole = refl }

pub blanks_read : (bytes : List ℕ) → Before Blanks (after_blanks bytes) bytes
blanks_read [] = record { front = []; first = tt; whole = refl }
blanks_read (c ∷ cs) = blanks_read_by c cs (is_blank c) refl (blanks_read cs)

blanks_skipped : (front rest : List ℕ) → Blanks front → after_blanks (front ++ rest) ≡ after_blanks rest
blanks_skipped [] rest h = refl
blanks_skipped (c ∷ cs) rest h = rw h.0 (blanks_skipped cs rest h.1)

pub blanks_none : (rest : List ℕ) → starts is_blank rest ≡ false → after_blanks rest ≡ rest
blanks_none [] h = refl
blanks_none (c ∷ cs) h = rw h refl

pub blanks_starts : (bytes : List ℕ) → starts is_blank (after_blanks bytes) ≡ false
blanks_starts [] = refl
blanks_starts (c ∷ cs) = grind (arith, blanks_starts cs)

pub blanks_over : (rest bytes : List ℕ) → Before Blanks rest bytes → after_blanks bytes ≡ after_blanks rest
blanks_over rest bytes b = ap after_blanks b.whole ∙ blanks_skipped b.front rest b.first

pub blanks_again : (rest bytes : List ℕ) → Before Blanks rest bytes → starts is_blank rest ≡ false
    → after_blanks bytes ≡ rest
blanks_again rest bytes b h = blanks_over rest bytes b ∙ blanks_none rest h

some_read_by : (c : ℕ) (cs : List ℕ) (b : Bool) → is_blank c ≡ b → Before Blanks (after_blanks cs) cs
    → IfSome (cond b (Some (after_blanks cs)) None) (λ rest. Before SomeBlanks rest (c ∷ cs))
some_read_by c cs true e r = record {
  front = c ∷ r.front;
  first = (omega arith, (e, r.first));
  whole = ap (λ t. c ∷ t) r.whole;
}
some_read_by c cs false e r = tt

pub some_blanks_read : (bytes : List ℕ) → IfSome (some_blanks_at bytes) (λ rest. Before SomeBlanks rest bytes)
some_blanks_read [] = tt
some_blanks_read (c ∷ cs) = some_read_by c cs (is_blank c) refl (blanks_read cs)

some_again_from : (front rest : List ℕ) → SomeBlanks front → starts is_blank rest ≡ false
    → some_blanks_at (front ++ rest) ≡ Some rest
some_again_from [] rest h s = absurd (omega (arith, h.0))
some_again_from (c ∷ cs) rest h s = rw (h.1.0, blanks_skipped cs rest h.1.1, blanks_none rest s) refl

pub some_blanks_again : (rest bytes : List ℕ) → Before SomeBlanks rest bytes → starts is_blank rest ≡ false
    → some_blanks_at bytes ≡ Some rest
some_blanks_again rest bytes b s = ap some_blanks_at b.whole ∙ some_again_from b.front rest b.first s

-- Numbers

pub digit_value_is : (c : ℕ) → is_ascii_digit c ≡ true → digit_value c ≡ c - 48
digit_value_is c h = grind (arith, nat_tests)

pub digit_value_small : (c : ℕ) → is_ascii_digit c ≡ true → digit_value c < 10
digit_value_small c h = grind (arith, nat_tests)

pub digit_from_value : (c : ℕ) → digit_value c < 10 → is_ascii_digit c ≡ true
digit_from_value c h = grind (arith, nat_tests)

capped_step : (n d : ℕ) → capped (capped n * 10 + d) ≡ capped (n * 10 + d)
capped_step n d = omega arith

capped_digit : (n c : ℕ) → is_ascii_digit c ≡ true → capped (capped n * 10 + (c - 48)) ≡ capped (n * 10 + digit_value c)
capped_digit n c h = ap (λ d. capped (capped n * 10 + d)) (sym (digit_value_is c h)) ∙ capped_step n (digit_value c)

-- the digits found behind those of n
record Digits (n value : ℕ) (rest bytes : List ℕ) : Type 0 where
  front : List ℕ
  all : AllDigits 10 front
  whole : bytes ≡ front ++ rest
  value_is : value ≡ capped (digits_value_after 10 n front)

digits_read : (n : ℕ) (bytes : List ℕ) → Digits n (digits_after (capped n) bytes).0 (digits_after (capped n) bytes).1
    bytes
digits_read n [] = record { front = []; all = tt; whole = refl; value_is = refl }
digits_read n (c ∷ cs) = by (is_ascii_digit c) refl (digits_read (n * 10 + digit_value c) cs)
  where
    by : (b : Bool) → is_ascii_digit c ≡ b
        → Digits (n * 10 + digit_value c) (digits_after (capped (n * 10 + digit_value c)) cs).0
        (digits_after (capped (n * 10 + digit_value c)) cs).1 cs
        → Digits n (cond b (digits_after (capped (capped n * 10 + (c - 48))) cs) (capped n, c ∷ cs)).0
        (cond b (digits_after (capped (capped n * 10 + (c - 48))) cs) (capped n, c ∷ cs)).1 (c ∷ cs)
    by true e r = rw (capped_digit n c e) (record {
      front = c ∷ r.front;
      all = (digit_value_small c e, r.all);
      whole = ap (λ t. c ∷ t) r.whole;
      value_is = r.value_is;
    })
    by false e r = record { front = []; all = tt; whole = refl; value_is = refl }

-- what a number gives
abbrev pub FindsNumber : List ℕ → ℕ × List ℕ → Type 0
FindsNumber bytes found = (n : ℕ) × Before (Number n) found.1 bytes × (found.0 ≡ capped n)

pub number_read : (bytes : List ℕ) → IfSome (number_at bytes) (FindsNumber bytes)
number_read [] = tt
number_read (c ∷ cs) = by (is_ascii_digit c) refl (digits_read (0 * 10 + digit_value c) cs)
  where
    found : Bool → ℕ × List ℕ
    found b = cond b (digits_after (capped (0 * 10 + (c - 48))) cs) (0, c ∷ cs)

    by : (b : Bool) → is_ascii_digit c ≡ b
        → Digits (0 * 10 + digit_value c) (digits_after (capped (0 * 10 + digit_value c)) cs).0
        (digits_after (capped (0 * 10 + digit_value c)) cs).1 cs
        → IfSome (cond b (Some (found b)) None) (FindsNumber (c ∷ cs))
    by false e r = tt
    by true e r = rw (capped_digit 0 c e) (
      digits_value_after 10 0 (c ∷ r.front),
      record {
        front = c ∷ r.front;
        first = ((omega arith, (digit_value_small c e, r.all)), refl);
        whole = ap (λ t. c ∷ t) r.whole;
      },
      r.value_is,
    )

digits_taken : (n : ℕ) (front rest : List ℕ) → AllDigits 10 front → starts is_ascii_digit rest ≡ false
    → digits_after (capped n) (front ++ rest) ≡ (capped (digits_value_after 10 n front), rest)
digits_taken n [] [] h s = refl
digits_taken n [] (c ∷ cs) h s = rw s refl
digits_taken n (c ∷ cs) rest h s = grind (arith, capped_digit, digit_from_value, digits_taken (n * 10 + digit_value c) cs rest h.1 s)

number_taken : (n : ℕ) (front rest : List ℕ) → Number n front → starts is_ascii_digit rest ≡ false
    → number_at (front ++ rest) ≡ Some (capped n, rest)
number_taken n [] rest h s = absurd (omega (arith, h.0.0))
number_taken n (c ∷ cs) rest h s = grind (arith, digit_from_value, digits_taken)

pub number_again : (n : ℕ) (rest bytes : List ℕ) → Before (Number n) rest bytes → starts is_ascii_digit rest ≡ false
    → number_at bytes ≡ Some (capped n, rest)
number_again n rest bytes b s = ap number_at b.whole ∙ number_taken n b.front rest b.first s

-- what holds of what is found follows from what held of it before
pub some_map : {A : Type 0} {P Q : A → Type 0} → ((x : A) → P x → Q x) → (o : Option A) → IfSome o P → IfSome o Q
some_map f None h = tt
some_map f (Some x) h = f x h

-- Registers

abbrev pub FindsRegister : List ℕ → ℕ × List ℕ → Type 0
FindsRegister bytes found = (r : Reg) × Before (Register r) found.1 bytes × (found.0 ≡ capped r.0)

pub register_read : (bytes : List ℕ) → IfSome (register_at bytes) (FindsRegister bytes)
register_read [] = tt
register_read (c ∷ cs) = by (c == 114) refl (number_at cs) (number_read cs)
  where
    by : (b : Bool) → (c == 114) ≡ b → (found : Option (ℕ × List ℕ)) → IfSome found (FindsNumber cs)
        → IfSome (cond b found None) (FindsRegister (c ∷ cs))
    by false e found h = tt
    by true e None h = tt
    by true e (Some found) h = (
      record { 0 = h.0 },
      Before-join (record { front = c ∷ []; first = ap (λ d. d ∷ []) (eqb-true c 114 e); whole = refl }) h.1,
      h.2,
    )

pub register_again : (r : Reg) (rest bytes : List ℕ) → Before (Register r) rest bytes
    → starts is_ascii_digit rest ≡ false → register_at bytes ≡ Some (capped r.0, rest)
register_again r rest bytes b s =
    let parts = Before-split b in
    ap register_at (parts.1.whole ∙ ap (λ t. t ++ parts.0) parts.1.first) ∙ number_again r.0 rest parts.0 parts.2 s

-- `=>` and `,`

double_arrow : (c d : ℕ) → ((c == 61) && (d == 62)) ≡ true → (c ≡ 61) × (d ≡ 62)
double_arrow c d h = (grind (arith, nat_tests), grind (arith, nat_tests))

arrow_found : (bytes : List ℕ) → IfSome (arrow_from bytes) (λ rest. Before (Text (codes "=>") ⋅ Blanks) rest bytes)
arrow_found [] = tt
arrow_found (c ∷ []) = tt
arrow_found (c ∷ d ∷ cs) = by ((c == 61) && (d == 62)) refl
  where
    by : (b : Bool) → ((c == 61) && (d == 62)) ≡ b
        → IfSome (cond b (Some (after_blanks cs)) None) (λ rest. Before (Text (codes "=>") ⋅ Blanks) rest (c ∷ d ∷ cs))
    by false e = tt
    by true e =
        let both = double_arrow c d e in
        Before-join (record { front = c ∷ d ∷ []; first = ap₂ (λ x y. x ∷ y ∷ []) both.0 both.1; whole = refl })
        (blanks_read cs)

pub arrow_read : (bytes : List ℕ) → IfSome (arrow_at bytes) (λ rest. Before Arrow rest bytes)
arrow_read bytes = some_map (λ rest. Before-join (blanks_read bytes)) (arrow_at bytes)
    (arrow_found (after_blanks bytes))

pub arrow_again : (rest bytes : List ℕ) → Before Arrow rest bytes → starts is_blank rest ≡ false
    → arrow_at bytes ≡ Some rest
arrow_again rest bytes b s =
    let outer = Before-split b in
    let inner = Before-split outer.2 in
    let here : outer.0 ≡ codes "=>" ++ inner.0 = inner.1.whole ∙ ap (λ t. t ++ inner.0) inner.1.first in
    ap arrow_from (blanks_again outer.0 bytes outer.1 (ap (starts is_blank) here) ∙ here)
    ∙ ap (λ r. Some r) (blanks_again rest inner.0 inner.2 s)

comma_found : (bytes : List ℕ) → IfSome (comma_from bytes) (λ rest. Before (Text (codes ",") ⋅ Blanks) rest bytes)
comma_found [] = tt
comma_found (c ∷ cs) = by (c == 44) refl
  where
    by : (b : Bool) → (c == 44) ≡ b → IfSome (cond b (Some (after_blanks cs)) None)
        (λ rest. Before (Text (codes ",") ⋅ Blanks) rest (c ∷ cs))
    by false e = tt
    by true e = Before-join (record { front = c ∷ []; first = ap (λ d. d ∷ []) (eqb-true c 44 e); whole = refl })
        (blanks_read cs)

pub comma_read : (bytes : List ℕ) → IfSome (comma_at bytes) (λ rest. Before Comma rest bytes)
comma_read bytes = some_map (λ rest. Before-join (blanks_read bytes)) (comma_at bytes)
    (comma_found (after_blanks bytes))

pub comma_again : (rest bytes : List ℕ) → Before Comma rest bytes → starts is_blank rest ≡ false
    → comma_at bytes ≡ Some rest
comma_again rest bytes b s =
    let outer = Before-split b in
    let inner = Before-split outer.2 in
    let here : outer.0 ≡ codes "," ++ inner.0 = inner.1.whole ∙ ap (λ t. t ++ inner.0) inner.1.first in
    ap comma_from (blanks_again outer.0 bytes outer.1 (ap (starts is_blank) here) ∙ here)
    ∙ ap (λ r. Some r) (blanks_again rest inner.0 inner.2 s)

-- Words

abbrev pub IsWord : List ℕ → Type 0
IsWord bytes = AllByRecursion (λ c. is_word_byte c ≡ true) bytes

word_over : (front rest : List ℕ) → IsWord front → starts is_word_byte rest ≡ false → after_word (front ++ rest) ≡ rest
word_over [] [] h s = refl
word_over [] (c ∷ cs) h s = rw s refl
word_over (c ∷ cs) rest h s = rw h.0 (word_over cs rest h.1 s)

word_of_over : (front rest : List ℕ) → after_word (front ++ rest) ≡ rest → word_of (front ++ rest) ≡ front
word_of_over front rest e = rw (e, length-append front rest, add-sub_cancel) (take-append_seam front rest)

pub word_again : (front rest : List ℕ) → IsWord front → starts is_word_byte rest ≡ false
    → (word_of (front ++ rest) ≡ front) × (after_word (front ++ rest) ≡ rest)
word_again front rest h s = let e = word_over front rest h s in (word_of_over front rest e, e)

word_split : (bytes : List ℕ) → (front : List ℕ) × IsWord front × (bytes ≡ front ++ after_word bytes)
    × (starts is_word_byte (after_word bytes) ≡ false)
word_split [] = ([], tt, refl, refl)
word_split (c ∷ cs) = by (is_word_byte c) refl (word_split cs)
  where
    by : (b : Bool) → is_word_byte c ≡ b → ((front : List ℕ) × IsWord front × (cs ≡ front ++ after_word cs)
        × (starts is_word_byte (after_word cs) ≡ false))
        → (front : List ℕ) × IsWord front × ((c ∷ cs) ≡ front ++ cond b (after_word cs) (c ∷ cs))
        × (starts is_word_byte (cond b (after_word cs) (c ∷ cs)) ≡ false)
    by true e r = (c ∷ r.0, (e, r.1), ap (λ t. c ∷ t) r.2, r.3)
    by false e r = ([], tt, refl, e)

-- the bytes are the word and what stands behind it
pub word_read : (bytes : List ℕ) → IsWord (word_of bytes) × (bytes ≡ word_of bytes ++ after_word bytes)
word_read bytes =
    let w = word_split bytes in
    let e : word_of bytes ≡ w.0 = ap word_of w.2 ∙ word_of_over w.0 (after_word bytes) (ap after_word (sym w.2)) in
    (subst IsWord (sym e) w.1, w.2 ∙ ap (λ t. t ++ after_word bytes) (sym e))

pub after_word_starts : (bytes : List ℕ) → starts is_word_byte (after_word bytes) ≡ false
after_word_starts bytes = (word_split bytes).3
