-- What is shown of a word.
use Rattle.std.proofs.Common.{◌≡◌, ℕ, zero, suc, ◌+◌, ◌<◌, List, [], ◌∷◌, ◌++◌, map, length, take, encode_utf8, sym, ap, ap₂, ◌∙◌, append_assoc, append-nil, arith}
use Rattle.std.proofs.Math.Seq.{take-nil}
use Rattle.std.proofs.lemmas.Str.{encode_ascii}
use Rattle.iloc_driver.specs.Quoted.{shown_byte}

-- each byte is shown as one
pub shown_alone : (c : ℕ) → encode_utf8 (shown_byte c) ≡ shown_byte c ∷ []
shown_alone c = encode_ascii (shown_byte c) (grind arith)

-- one more byte is shown
pub next_shown : (done rest left all : List ℕ) (n m byte char : ℕ) → char ≡ shown_byte byte → rest ≡ byte ∷ left → m + 1 ≡ n
    → done ++ map shown_byte (take n rest) ≡ all → (done ++ encode_utf8 char) ++ map shown_byte (take m left) ≡ all
next_shown done rest left all n m byte char is next fewer so_far =
    let one : encode_utf8 char ≡ shown_byte byte ∷ [] = ap encode_utf8 is ∙ shown_alone byte in
    let more : suc m ≡ n = omega (arith, fewer) in
    let same : map shown_byte (take (suc m) (byte ∷ left)) ≡ map shown_byte (take n rest) =
    ap₂ (λ k xs. map shown_byte (take k xs)) more (sym next) in
    append_assoc done (encode_utf8 char) (map shown_byte (take m left))
    ∙ (ap (λ xs. done ++ (xs ++ map shown_byte (take m left))) one ∙ (ap (λ xs. done ++ xs) same ∙ so_far))

-- none is left
pub none_shown : (done rest all : List ℕ) (n : ℕ) → (0 < n → length rest ≡ 0) → done ++ map shown_byte (take n rest) ≡ all
    → done ≡ all
none_shown done [] all n none so_far = grind (arith, append-nil, take-nil)
none_shown done (c ∷ rest) all zero none so_far = grind (arith, append-nil)
none_shown done (c ∷ rest) all (suc n) none so_far = absurd (omega (arith, none (omega arith)))
