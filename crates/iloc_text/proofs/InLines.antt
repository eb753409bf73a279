-- What stands before the comment of a line has no line end.
use Rattle.iloc_text.proofs.Common.{◌≡◌, ℕ, ◌<◌, true, not, List, [], ◌∷◌, ◌++◌, ◌==◌, Some, None, codes, Option, sym, refl, subst, arith, nat_tests, digit_value, list_all, Lead, Operand, Value, opcode, opcode_text, operands, arrow, comma, space, Constant, Opcode, Nop, Op, HasNoLineEnd, Blanks, LeadText, Name, Number, OperandsText, Operation, OptionalLabel, Text, ValueText, is_blank, is_word_byte, ◌⋅◌}
use Rattle.std.specs.Str.Parse.{AllDigits}
use Rattle.iloc_text.proofs.Tokens.{IsWord}
use Rattle.iloc_text.proofs.Labels.{name_is_word}

-- no text of the language has a line end
abbrev pub IsInside : (List ℕ → Type 0) → Type 0
IsInside P = (bytes : List ℕ) → P bytes → HasNoLineEnd bytes

both_inside : (front rest : List ℕ) → HasNoLineEnd front → HasNoLineEnd rest → HasNoLineEnd (front ++ rest)
both_inside [] rest f r = r
both_inside (c ∷ cs) rest f r = (f.0, both_inside cs rest f.1 r)

pub join_inside : {P Q : List ℕ → Type 0} → IsInside P → IsInside Q → IsInside (P ⋅ Q)
join_inside p q = λ bytes j. subst HasNoLineEnd (sym j.whole)
    (both_inside j.front j.rest (p j.front j.first) (q j.rest j.second))

test_inside : (bytes : List ℕ) → list_all (λ c. not (c == 10)) bytes ≡ true → HasNoLineEnd bytes
test_inside [] h = tt
test_inside (c ∷ cs) h = grind (arith, nat_tests, test_inside cs)

pub text_inside : (text : List ℕ) → list_all (λ c. not (c == 10)) text ≡ true → IsInside (Text text)
text_inside text h = λ bytes e. subst HasNoLineEnd (sym e) (test_inside text h)

blank_inside : (c : ℕ) → is_blank c ≡ true → c ≡ 10 → ⊥
blank_inside c h e = grind (arith, nat_tests)

pub blanks_inside : IsInside Blanks
blanks_inside [] h = tt
blanks_inside (c ∷ cs) h = (blank_inside c h.0, blanks_inside cs h.1)

digit_inside : (c : ℕ) → digit_value c < 10 → c ≡ 10 → ⊥
digit_inside c h e = grind (arith, nat_tests)

digits_inside : IsInside (AllDigits 10)
digits_inside [] h = tt
digits_inside (c ∷ cs) h = (digit_inside c h.0, digits_inside cs h.1)

number_inside : {n : ℕ} → IsInside (Number n)
number_inside = λ bytes h. digits_inside bytes h.0.1

lead_inside : (lead : Lead) → IsInside (LeadText lead)
lead_inside space = λ bytes h. blanks_inside bytes h.1
lead_inside comma = join_inside blanks_inside (join_inside (text_inside (codes ",") refl) blanks_inside)
lead_inside arrow = join_inside blanks_inside (join_inside (text_inside (codes "=>") refl) blanks_inside)

value_inside : (value : Value) → IsInside (ValueText value)
value_inside (Constant n) = number_inside
value_inside _ = join_inside (text_inside (codes "r") refl) number_inside

operands_inside : (operands : List Operand) → IsInside (OperandsText operands)
operands_inside [] = text_inside [] refl
operands_inside (o ∷ more) = join_inside (lead_inside o.lead) (join_inside (value_inside o.value) (operands_inside more))

opcode_inside : (o : Opcode) → IsInside (Text (opcode_text o))
opcode_inside Nop = text_inside (codes "nop") refl
opcode_inside o = text_inside (opcode_text o) refl

pub operation_inside : (op : Op) → IsInside (Operation op)
operation_inside op = join_inside (opcode_inside (opcode op)) (operands_inside (operands op))

word_byte_inside : (c : ℕ) → is_word_byte c ≡ true → c ≡ 10 → ⊥
word_byte_inside c h e = grind (arith, nat_tests)

word_inside : IsInside IsWord
word_inside [] h = tt
word_inside (c ∷ cs) h = (word_byte_inside c h.0, word_inside cs h.1)

name_inside : (name : List ℕ) → IsInside (Name name)
name_inside name = λ bytes h. subst HasNoLineEnd (sym h.1) (word_inside name (name_is_word name h.0))

pub optional_label_inside : (label : Option (List ℕ)) → IsInside (OptionalLabel label)
optional_label_inside None = text_inside [] refl
optional_label_inside (Some name) = join_inside (name_inside name)
    (join_inside blanks_inside (text_inside (codes ":") refl))
