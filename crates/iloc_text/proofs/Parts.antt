-- A text of a language at the front of other bytes.
use Rattle.iloc_text.proofs.Common.{◌≡◌, ℕ, Bool, false, List, [], ◌∷◌, ◌++◌, sym, refl, ap, ◌∙◌, subst, append_assoc, append-nil, arith, ◌⋅◌}

-- the bytes are a text of the language and then the rest
pub record Before (P : List ℕ → Type 0) (rest bytes : List ℕ) : Type 0 where
  pub front : List ℕ
  pub first : P front
  pub whole : bytes ≡ front ++ rest

pub Before-join : {P Q : List ℕ → Type 0} {mid rest bytes : List ℕ} → Before P mid bytes → Before Q rest mid
    → Before (P ⋅ Q) rest bytes
Before-join {P} {Q} {mid} {rest} {bytes} a b = record {
  front = a.front ++ b.front;
  first = record { front = a.front; rest = b.front; first = a.first; second = b.first; whole = refl };
  whole = a.whole ∙ ap (λ r. a.front ++ r) b.whole ∙ sym (append_assoc a.front b.front rest);
}

pub Before-split : {P Q : List ℕ → Type 0} {rest bytes : List ℕ} → Before (P ⋅ Q) rest bytes → (mid : List ℕ)
    × Before P mid bytes × Before Q rest mid
Before-split b = grind (arith, append_assoc)

-- a whole text of the language
pub Before-all : {P : List ℕ → Type 0} {bytes : List ℕ} → Before P [] bytes → P bytes
Before-all {P} {bytes} b = subst P (sym (b.whole ∙ append-nil b.front)) b.first

pub all-Before : {P : List ℕ → Type 0} {bytes : List ℕ} → P bytes → Before P [] bytes
all-Before {P} {bytes} p = record { front = bytes; first = p; whole = sym (append-nil bytes) }

-- the first byte passes the test
abbrev pub starts : (ℕ → Bool) → List ℕ → Bool
starts test [] = false
starts test (c ∷ cs) = test c
