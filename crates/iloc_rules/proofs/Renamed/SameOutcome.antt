-- Traces with the same effects, one by one, have the same outcome; for `rename` (`outcome`).
use Rattle.iloc_rules.proofs.Common.{◌≡◌, ℕ, List, [], ◌∷◌, ℤ, refl, arith, emitted, has_fault, outcome_of, Executed, word_after}

-- two traces from one memory end alike, whatever their registers are
pub record SameEnd (memory : List ℤ) (trace other : List Executed) : Type 0 where
  pub words : (a : ℕ) → word_after memory trace a ≡ word_after memory other a
  pub outputs : emitted trace ≡ emitted other
  pub faults : has_fault trace ≡ has_fault other

pub same_outcome : (memory : List ℤ) (trace other : List Executed) → SameEnd memory trace other
    → outcome_of memory trace ≡ outcome_of memory other
same_outcome memory trace other same = grind arith

-- each operation of the one has the effect of its fellow in the other
abbrev pub SameEffects : List Executed → List Executed → Type 0
SameEffects [] [] = Unit {0}
SameEffects [] (f ∷ others) = ⊥
SameEffects (e ∷ trace) [] = ⊥
SameEffects (e ∷ trace) (f ∷ others) = (e.effect ≡ f.effect) × SameEffects trace others

pub same_words : (memory : List ℤ) (trace other : List Executed) → SameEffects trace other → (a : ℕ)
    → word_after memory trace a ≡ word_after memory other a
same_words memory [] [] same a = refl
same_words memory [] (f ∷ others) same a = absurd same
same_words memory (e ∷ trace) [] same a = absurd same
same_words memory (e ∷ trace) (f ∷ others) same a = grind (arith, same_words memory trace others same.1 a)

same_outputs : (trace other : List Executed) → SameEffects trace other → emitted trace ≡ emitted other
same_outputs [] [] same = refl
same_outputs [] (f ∷ others) same = absurd same
same_outputs (e ∷ trace) [] same = absurd same
same_outputs (e ∷ trace) (f ∷ others) same = rw (same.0, same_outputs trace others same.1) refl

same_faults : (trace other : List Executed) → SameEffects trace other → has_fault trace ≡ has_fault other
same_faults [] [] same = refl
same_faults [] (f ∷ others) same = absurd same
same_faults (e ∷ trace) [] same = absurd same
same_faults (e ∷ trace) (f ∷ others) same = rw (same.0, same_faults trace others same.1) refl

pub same_end : (memory : List ℤ) (trace other : List Executed) → SameEffects trace other → SameEnd memory trace other
same_end memory trace other same = grind (arith, same_faults, same_outputs, same_words)
