-- What stands before a rest of the bytes.
use Rattle.iloc_text.proofs.Common.{◌≡◌, ℕ, ◌-◌, List, [], ◌∷◌, ◌++◌, length, take, drop, IfSome, Some, None, Option, option_map, sym, ap, ◌∙◌, subst, append_assoc, arith, length-append, take-append-drop, Bor, drop-append_seam}
use Rattle.iloc_text.proofs.Parts.{Before}

abbrev pub InText : List ℕ → Option (Bor (List ℕ)) → Type 0
InText text found = IfSome found (λ rest. (front : List ℕ) × (text ≡ front ++ rest.now))

-- what a token function finds
pub found_in : (P : List ℕ → Type 0) (text : List ℕ) (token : List ℕ → Option (List ℕ)) (found : Option (Bor (List ℕ)))
    → ((text : List ℕ) → IfSome (token text) (λ r. Before P r text))
    → option_map (λ (r : Bor (List ℕ)). r.now) found ≡ token text → InText text found
found_in P text token None reads e = tt
found_in P text token (Some rest) reads e =
    let before = subst (λ o. IfSome o (λ r. Before P r text)) (sym e) (reads text) in (before.front, before.whole)

-- and what follows the letter behind it
pub letter_in : (text : List ℕ) (found : Option (Bor (List ℕ))) (behind : Bor (List ℕ)) (letter : Option (Bor (List ℕ)))
    → InText text found → found ≡ Some behind → IfSome letter (λ rest. behind.now ≡ 114 ∷ rest.now) → InText text letter
letter_in text found behind None token is e = tt
letter_in text found behind (Some rest) token is e =
    let before = subst (InText text) is token in (
      before.0 ++ 114 ∷ [],
      before.1 ∙ ap (λ t. before.0 ++ t) e ∙ sym (append_assoc before.0 (114 ∷ []) rest.now),
    )

-- where a rest of the bytes from a place on begins
pub rest_begins : (bytes : List ℕ) (at : ℕ) (part rest : List ℕ) → part ≡ drop at bytes → (front : List ℕ) × (part ≡ front ++ rest)
    → drop (length bytes - length rest) bytes ≡ rest
rest_begins bytes at part rest is before =
    let front = take at bytes ++ before.0 in
    let whole : bytes ≡ front ++ rest = sym (take-append-drop at bytes) ∙ ap (λ d. take at bytes ++ d) (sym is ∙ before.1)
    ∙ sym (append_assoc (take at bytes) before.0 rest) in
    subst (λ b. drop (length b - length rest) b ≡ rest) (sym whole)
    (ap (λ n. drop n (front ++ rest)) (omega (arith, length-append front rest)) ∙ drop-append_seam front rest)
