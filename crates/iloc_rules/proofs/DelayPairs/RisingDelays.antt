-- The delays of two operations in order, each once; for `pairs` (`exact`, `ordered`).
use Rattle.iloc_rules.proofs.Common.{◌≡◌, ℕ, ◌<◌, ◌⊎◌, List, [], ◌∷◌, refl, inl, inr, arith, rising, with_delay, In}
use Rattle.std.proofs.lemmas.Bool.Decides.{nat_tests}
use Rattle.iloc_rules.proofs.Basics.Ordered.{Ordered}

-- what stands in a list with one more delay
from_with : (d : ℕ) (es : List ℕ) (x : ℕ) → In (with_delay d es) x → (d ≡ x) ⊎ In es x
from_with d [] x there = there
from_with d (e ∷ rest) x there = grind (arith, from_with d rest x)

with_new : (d : ℕ) (es : List ℕ) → In (with_delay d es) d
with_new d [] = inl refl
with_new d (e ∷ rest) = grind (arith, nat_tests, with_new d rest)

with_old : (d : ℕ) (es : List ℕ) (x : ℕ) → In es x → In (with_delay d es) x
with_old d [] x there = absurd there
with_old d (e ∷ rest) x there = grind (arith, with_old d rest x)

abbrev pub Below : ℕ → ℕ → Type 0
Below a b = a < b

ordered_with : (d : ℕ) (es : List ℕ) → Ordered Below es → Ordered Below (with_delay d es)
ordered_with d [] ordered = (λ y there. absurd there, tt)
ordered_with d (e ∷ rest) ordered = grind (arith, from_with, nat_tests, ordered_with d rest ordered.1)

pub rising_ordered : (ds : List ℕ) → Ordered Below (rising ds)
rising_ordered [] = tt
rising_ordered (d ∷ ds) = ordered_with d (rising ds) (rising_ordered ds)

pub from_rising : (ds : List ℕ) (x : ℕ) → In (rising ds) x → In ds x
from_rising [] x there = absurd there
from_rising (d ∷ ds) x there = grind (arith, from_with, from_rising ds x)

pub in_rising : (ds : List ℕ) (x : ℕ) → In ds x → In (rising ds) x
in_rising [] x there = absurd there
in_rising (d ∷ ds) x (inl here) = rw (← here) (with_new d (rising ds))
in_rising (d ∷ ds) x (inr there) = with_old d (rising ds) x (in_rising ds x there)
