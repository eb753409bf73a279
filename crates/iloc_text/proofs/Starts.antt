-- What the texts of the grammar begin with.
use Rattle.iloc_text.proofs.Common.{◌≡◌, ℕ, ◌<◌, Bool, true, false, List, [], ◌∷◌, ◌++◌, refl, ap, ◌∙◌, arith, nat_tests, digit_value, is_ascii_digit, Lead, Operand, Value, arrow, comma, space, Constant, Definition, Use, Blanks, LeadText, Number, OperandsText, SomeBlanks, Text, ValueText, is_blank, is_word_byte, ◌⋅◌}
use Rattle.iloc_text.proofs.Parts.{Before, Before-split, starts}

pub blanks_start : (front rest : List ℕ) (test : ℕ → Bool) → Blanks front
    → ((c : ℕ) → is_blank c ≡ true → test c ≡ false) → starts test rest ≡ false → starts test (front ++ rest) ≡ false
blanks_start [] rest test h fails s = s
blanks_start (c ∷ cs) rest test h fails s = fails c h.0

-- blanks, and a rest that does not pass either
pub blanks_fail : {rest bytes : List ℕ} (test : ℕ → Bool) → ((c : ℕ) → is_blank c ≡ true → test c ≡ false)
    → Before Blanks rest bytes → starts test rest ≡ false → starts test bytes ≡ false
blanks_fail {rest} {bytes} test fails b s = ap (starts test) b.whole ∙ blanks_start b.front rest test b.first fails s

pub text_starts : {t rest bytes : List ℕ} (test : ℕ → Bool) → Before (Text t) rest bytes
    → starts test bytes ≡ starts test (t ++ rest)
text_starts {t} {rest} {bytes} test b = ap (starts test) (b.whole ∙ ap (λ f. f ++ rest) b.first)

pub blank_is_no_digit : (c : ℕ) → is_blank c ≡ true → is_ascii_digit c ≡ false
blank_is_no_digit c h = grind (arith, nat_tests)

pub blank_is_no_word_byte : (c : ℕ) → is_blank c ≡ true → is_word_byte c ≡ false
blank_is_no_word_byte c h = grind (arith, nat_tests)

pub digit_is_no_blank : (c : ℕ) → digit_value c < 10 → is_blank c ≡ false
digit_is_no_blank c h = grind (arith, nat_tests)

pub digit_by_word_byte : (c : ℕ) → is_word_byte c ≡ false → is_ascii_digit c ≡ false
digit_by_word_byte c h = grind (arith, nat_tests)

pub digit_start_by_word : (bytes : List ℕ) → starts is_word_byte bytes ≡ false → starts is_ascii_digit bytes ≡ false
digit_start_by_word [] h = refl
digit_start_by_word (c ∷ cs) h = digit_by_word_byte c h

pub some_fail : {rest bytes : List ℕ} (test : ℕ → Bool) → ((c : ℕ) → is_blank c ≡ true → test c ≡ false)
    → Before SomeBlanks rest bytes → starts test bytes ≡ false
some_fail {rest} {bytes} test fails b = ap (starts test) b.whole ∙ by b.front b.first
  where
    by : (front : List ℕ) → SomeBlanks front → starts test (front ++ rest) ≡ false
    by [] h = absurd (omega (arith, h.0))
    by (c ∷ cs) h = fails c h.1.0

-- a test that fails where a lead begins
pub record FailsLeads (test : ℕ → Bool) : Type 0 where
  pub blank : (c : ℕ) → is_blank c ≡ true → test c ≡ false
  pub sign : (test 44 ≡ false) × (test 61 ≡ false)

sign_fails : {sign rest bytes : List ℕ} (test : ℕ → Bool) → ((c : ℕ) → is_blank c ≡ true → test c ≡ false)
    → ((rest : List ℕ) → starts test (sign ++ rest) ≡ false)
    → Before (Blanks ⋅ Text sign ⋅ Blanks) rest bytes → starts test bytes ≡ false
sign_fails test blank sign b =
    let outer = Before-split b in
    let inner = Before-split outer.2 in
    blanks_fail test blank outer.1 (text_starts test inner.1 ∙ sign inner.0)

pub lead_fails : (lead : Lead) {rest bytes : List ℕ} (test : ℕ → Bool) → FailsLeads test
    → Before (LeadText lead) rest bytes → starts test bytes ≡ false
lead_fails space test fails b = some_fail test fails.blank b
lead_fails comma test fails b = sign_fails test fails.blank (λ _. fails.sign.0) b
lead_fails arrow test fails b = sign_fails test fails.blank (λ _. fails.sign.1) b

-- operands, and a rest that does not pass either
pub operands_fail : (operands : List Operand) {rest bytes : List ℕ} (test : ℕ → Bool) → FailsLeads test
    → Before (OperandsText operands) rest bytes
    → starts test rest ≡ false → starts test bytes ≡ false
operands_fail [] test fails b s = text_starts test b ∙ s
operands_fail (o ∷ more) test fails b s = lead_fails o.lead test fails (Before-split b).1

-- a test that fails where a value begins
pub record FailsValues (test : ℕ → Bool) : Type 0 where
  pub digit : (c : ℕ) → digit_value c < 10 → test c ≡ false
  pub letter : test 114 ≡ false

pub value_fails : (value : Value) {rest bytes : List ℕ} (test : ℕ → Bool) → FailsValues test
    → Before (ValueText value) rest bytes → starts test bytes ≡ false
value_fails (Use r) test fails b = text_starts test (Before-split b).1 ∙ fails.letter
value_fails (Definition r) test fails b = text_starts test (Before-split b).1 ∙ fails.letter
value_fails (Constant n) {rest} {bytes} test fails b = ap (starts test) b.whole ∙ by b.front b.first
  where
    by : (front : List ℕ) → Number n front → starts test (front ++ rest) ≡ false
    by [] h = absurd (omega (arith, h.0.0))
    by (c ∷ cs) h = fails.digit c h.0.1.0
