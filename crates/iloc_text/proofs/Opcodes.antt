-- The scanner finds each opcode, and an opcode only where its word stands.
use Rattle.iloc_text.proofs.Common.{◌≡◌, ℕ, Bool, true, List, [], ◌∷◌, ◌++◌, IfSome, Some, None, Option, find, bytes_eq, sym, refl, arith, list_all, opcode_text, opcodes, Opcode, Nop, is_word_byte, opcode_of, ◌>>=◌}
use Rattle.std.proofs.lemmas.Slice.Eq.{bytes_eq-Decides}
use Rattle.iloc_text.proofs.Parts.{starts}
use Rattle.iloc_text.proofs.Tokens.{some_map, IsWord}

-- what holds of a found part and of all that follows it
pub bind_each : {A B : Type 0} {P : A → Type 0} (Q : B → Type 0) (o : Option A) (f : A → Option B) → IfSome o P
    → ((x : A) → P x → IfSome (f x) Q) → IfSome (o >>= f) Q
bind_each Q None f h step = tt
bind_each Q (Some x) f h step = step x h

pub found_passes : {A : Type 0} (p : A → Bool) (xs : List A) → IfSome (find p xs) (λ x. p x ≡ true)
found_passes p [] = tt
found_passes {A} p (x ∷ xs) = grind (arith, find, found_passes p xs)

pub opcode_read : (word : List ℕ) → IfSome (opcode_of word) (λ o. word ≡ opcode_text o)
opcode_read word = some_map (λ o e. sym ((bytes_eq-Decides (opcode_text o) word).0 e)) (opcode_of word)
    (found_passes (λ o. bytes_eq (opcode_text o) word) opcodes)

pub word_by_test : (bytes : List ℕ) → list_all is_word_byte bytes ≡ true → IsWord bytes
word_by_test [] h = tt
word_by_test (c ∷ cs) h = grind (arith, word_by_test cs)

opcode_passes : (o : Opcode) → list_all is_word_byte (opcode_text o) ≡ true
opcode_passes Nop = refl
opcode_passes _ = refl

pub opcode_is_word : (o : Opcode) → IsWord (opcode_text o)
opcode_is_word o = word_by_test (opcode_text o) (opcode_passes o)

pub opcode_starts : (o : Opcode) (rest : List ℕ) → starts is_word_byte (opcode_text o ++ rest) ≡ true
opcode_starts Nop rest = refl
opcode_starts _ rest = refl
