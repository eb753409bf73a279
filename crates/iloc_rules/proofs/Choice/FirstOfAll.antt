-- The first of all candidates goes before each of them; for `schedule` (`greedy`).
use Rattle.iloc_rules.proofs.Common.{◌≡◌, ℕ, ◌<◌, ◌≤◌, ◌⊎◌, List, [], ◌∷◌, Some, None, Option, sym, refl, ap, ◌∙◌, subst, inl, inr, arith, ltb-false, ltb-true, none-some, same_Some, better, first_of_all, GoesBefore, In}
use Rattle.iloc_rules.proofs.Basics.Members.{empty_from}
use Rattle.iloc_rules.proofs.Basics.Rising.{Rises}

pub first_in : (prios xs : List ℕ) (k : ℕ) → first_of_all prios xs ≡ Some k → In xs k
first_in prios [] k is = absurd (none-some k is)
first_in prios (i ∷ is) k same = grind (arith, same_Some, first_in prios is k)

pub goes_before_self : (prios : List ℕ) (i : ℕ) → GoesBefore prios i i
goes_before_self prios i = inr (refl, omega arith)

pub goes_before_trans : (prios : List ℕ) (i j k : ℕ) → GoesBefore prios i j → GoesBefore prios j k
    → GoesBefore prios i k
goes_before_trans prios i j k held x5 = grind arith

-- two that go before each other are one
pub goes_before_both : (prios : List ℕ) (i j : ℕ) → GoesBefore prios i j → GoesBefore prios j i → i ≡ j
goes_before_both prios i j held x4 = grind arith

-- of a lower number and a higher one, the lower goes before unless the higher has the higher priority
better_before : (prios : List ℕ) (i m : ℕ) → i ≤ m → GoesBefore prios (better prios i (Some m)) i
    × GoesBefore prios (better prios i (Some m)) m
better_before prios i m low = grind (arith, goes_before_self, ltb-false, ltb-true)

first_from : (prios : List ℕ) (i : ℕ) (is : List ℕ) (o : Option ℕ) → ((y : ℕ) → In is y → i < y)
    → first_of_all prios is ≡ o
    → ((m j : ℕ) → o ≡ Some m → In is j → GoesBefore prios m j) → (j : ℕ) → (i ≡ j) ⊎ In is j
    → GoesBefore prios (better prios i o) j
first_from prios i is None low found rest j (inl here) = subst (GoesBefore prios i) here (goes_before_self prios i)
first_from prios i [] None low found rest j (inr there) = absurd there
first_from prios i (x ∷ is) None low found rest j (inr there) = absurd (none-some _ (sym found))
first_from prios i is (Some m) low found rest j there =
    grind (arith, better_before prios i m, first_in prios is m found, goes_before_trans prios (better prios i (Some m)) m j)

pub first_goes_before : (prios xs : List ℕ) (k j : ℕ) → Rises xs → first_of_all prios xs ≡ Some k → In xs j
    → GoesBefore prios k j
first_goes_before prios [] k j rises is there = absurd there
first_goes_before prios (i ∷ is) k j rises same there = grind (arith, first_from, same_Some, first_goes_before prios is)

pub first_some : (prios xs : List ℕ) (j : ℕ) → In xs j → (k : ℕ) × (first_of_all prios xs ≡ Some k)
first_some prios [] j there = absurd there
first_some prios (i ∷ is) j there = (better prios i (first_of_all prios is), refl)

-- the candidate that goes before each is the first of all
pub first_is : (prios xs : List ℕ) (k : ℕ) → Rises xs → In xs k → ((j : ℕ) → In xs j → GoesBefore prios k j)
    → first_of_all prios xs ≡ Some k
first_is prios xs k rises there best =
    let found = first_some prios xs k there in
    found.1 ∙ ap Some (goes_before_both prios found.0 k (first_goes_before prios xs found.0 k rises found.1 there)
    (best found.0 (first_in prios xs found.0 found.1)))

pub first_none : (prios xs : List ℕ) → ((j : ℕ) → In xs j → ⊥) → first_of_all prios xs ≡ None
first_none prios xs none = ap (first_of_all prios) (empty_from xs none)
