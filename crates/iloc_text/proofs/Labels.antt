-- The scanner finds a label where one stands, and none elsewhere.
use Rattle.iloc_text.proofs.Common.{◌≡◌, ℕ, Bool, true, false, cond, List, [], ◌∷◌, ◌++◌, IfSome, ◌==◌, Some, None, codes, Option, refl, ap, ◌∙◌, arith, nat_tests, is_ascii_alphabetic, IsName, OptionalLabel, Text, is_blank, is_word_byte, after_blanks, after_colon, after_word, label_or_none, word_of}
use Rattle.iloc_text.specs.Steps.Scan.{optional_label_at}
use Rattle.iloc_text.proofs.Parts.{Before, Before-join, Before-split, starts}
use Rattle.iloc_text.proofs.Tokens.{blanks_read, blanks_again, IsWord, word_again, word_read, after_word_starts}
use Rattle.iloc_text.proofs.Starts.{blanks_fail, blank_is_no_word_byte}

abbrev pub is_colon : ℕ → Bool
is_colon c = c == 58

pub colon_tells : (c : ℕ) → is_colon c ≡ true → c ≡ 58
colon_tells c h = grind (arith, nat_tests)

pub colon_read : (bytes : List ℕ) → IfSome (after_colon bytes) (λ rest. Before (Text (codes ":")) rest bytes)
colon_read bytes = grind (arith, codes, colon_tells)

pub colon_none : (bytes : List ℕ) → starts is_colon bytes ≡ false → after_colon bytes ≡ None
colon_none [] h = refl
colon_none (c ∷ cs) h = rw h refl

pub letter_is_word_byte : (c : ℕ) → is_ascii_alphabetic c ≡ true → is_word_byte c ≡ true
letter_is_word_byte c h = grind (arith, nat_tests)

pub word_byte_may_be_letter : (c : ℕ) → is_word_byte c ≡ false → is_ascii_alphabetic c ≡ false
word_byte_may_be_letter c h = grind (arith, nat_tests)

pub word_is_name : (c : ℕ) (cs : List ℕ) → is_ascii_alphabetic c ≡ true → IsName (word_of (c ∷ cs))
word_is_name c cs h = by (word_of (c ∷ cs)) (word_read (c ∷ cs)).0 (word_read (c ∷ cs)).1
  where
    by : (w : List ℕ) → IsWord w → c ∷ cs ≡ w ++ after_word (c ∷ cs) → IsName w
    by [] word e = let here = ap (starts is_word_byte) e ∙ after_word_starts (c ∷ cs) in let there =
        letter_is_word_byte c h in cc
    by (x ∷ xs) word e = let same : x ≡ c = cc in (ap is_ascii_alphabetic same ∙ h, word.1)

pub no_label : (bytes : List ℕ) → Before (OptionalLabel None) bytes bytes
no_label bytes = record { front = []; first = refl; whole = refl }

pub label_read : (bytes : List ℕ) → Before (OptionalLabel (optional_label_at bytes).0) (optional_label_at bytes).1 bytes
unfolding optional_label_at
label_read [] = no_label []
label_read (c ∷ cs) = by (is_ascii_alphabetic c) refl
  where
    found : Option (List ℕ) → Option (List ℕ) × List ℕ
    found rest = label_or_none (c ∷ cs) rest

    named : is_ascii_alphabetic c ≡ true → (rest : Option (List ℕ))
        → IfSome rest (λ r. Before (Text (codes ":")) r (after_blanks (after_word (c ∷ cs))))
        → Before (OptionalLabel (label_or_none (c ∷ cs) rest).0) (label_or_none (c ∷ cs) rest).1 (c ∷ cs)
    named e None h = no_label (c ∷ cs)
    named e (Some rest) h = Before-join
        (record { front = word_of (c ∷ cs); first = (word_is_name c cs e, refl); whole = (word_read (c ∷ cs)).1 })
        (Before-join (blanks_read (after_word (c ∷ cs))) h)

    by : (b : Bool) → is_ascii_alphabetic c ≡ b
        → Before (OptionalLabel (cond b (label_or_none (c ∷ cs) (after_colon (after_blanks (after_word (c ∷ cs)))))
        (None, c ∷ cs)).0)
        (cond b (label_or_none (c ∷ cs) (after_colon (after_blanks (after_word (c ∷ cs))))) (None, c ∷ cs)).1 (c ∷ cs)
    by true e = named e (after_colon (after_blanks (after_word (c ∷ cs))))
        (colon_read (after_blanks (after_word (c ∷ cs))))
    by false e = no_label (c ∷ cs)

pub label_none : (bytes : List ℕ) → starts is_colon (after_blanks (after_word bytes)) ≡ false
    → optional_label_at bytes ≡ (None, bytes)
unfolding optional_label_at
label_none bytes h = grind (arith, colon_none)

pub label_not_here : (bytes : List ℕ) → starts is_word_byte bytes ≡ false → optional_label_at bytes ≡ (None, bytes)
unfolding optional_label_at
label_not_here [] h = refl
label_not_here (c ∷ cs) h = rw (word_byte_may_be_letter c h) refl

pub name_is_word : (name : List ℕ) → IsName name → IsWord name
name_is_word [] h = absurd h
name_is_word (c ∷ cs) h = (letter_is_word_byte c h.0, h.1)

pub name_starts : (name rest : List ℕ) → IsName name → starts is_word_byte (name ++ rest) ≡ true
name_starts [] rest h = absurd h
name_starts (c ∷ cs) rest h = letter_is_word_byte c h.0

pub label_over : (name rest : List ℕ) → IsName name → optional_label_at (name ++ rest)
    ≡ label_or_none (name ++ rest) (after_colon (after_blanks (after_word (name ++ rest))))
unfolding optional_label_at
label_over name rest h = grind arith

pub label_again : (name rest bytes : List ℕ) → Before (OptionalLabel (Some name)) rest bytes
    → (optional_label_at bytes ≡ (Some name, rest)) × (starts is_word_byte bytes ≡ true)
label_again name rest bytes b =
    let first = Before-split b in
    let second = Before-split first.2 in
    let whole : bytes ≡ name ++ first.0 = first.1.whole ∙ ap (λ f. f ++ first.0) first.1.first.1 in
    let colon : second.0 ≡ codes ":" ++ rest = second.2.whole ∙ ap (λ f. f ++ rest) second.2.first in
    let stop : starts is_word_byte first.0 ≡ false =
    blanks_fail is_word_byte blank_is_no_word_byte second.1 (ap (starts is_word_byte) colon) in
    let word = word_again name first.0 (name_is_word name first.1.first.0) stop in
    let skipped : after_blanks first.0 ≡ second.0 =
    blanks_again second.0 first.0 second.1 (ap (starts is_blank) colon) in
    let behind : after_colon (after_blanks (after_word (name ++ first.0))) ≡ Some rest =
    ap (λ t. after_colon (after_blanks t)) word.1 ∙ ap after_colon (skipped ∙ colon) in (
      ap optional_label_at whole ∙ label_over name first.0 first.1.first.0
          ∙ ap (label_or_none (name ++ first.0)) behind ∙ ap (λ w. (Some w, rest)) word.0,
      ap (starts is_word_byte) whole ∙ name_starts name first.0 first.1.first.0,
    )
