-- What the choice puts into a row: ready operations, by the rules of the units; for `laws::one_greedy_schedule`.
use Rattle.iloc_rules.proofs.Common.{◌≡◌, ℕ, Bool, true, false, not, ◌&&◌, ◌||◌, ◌≢◌, ◌⊎◌, List, [], ◌∷◌, ◌++◌, ◌==◌, Some, None, count_by, filter, Option, option_to_list, sym, refl, ap, ◌∙◌, inl, inr, true≢false, arith, eq-eqb, ne_eqb, and_parts, cond_both, eqb-false, not-true, Op, op_at, is_memory, is_mult, is_output, kind, is_some_kind, keeps_units, slots, Kind, Row, chosen, chosen_with, first_of_all, may_stand_beside, on_units, In}
use Rattle.iloc_timed.specs.declared.kind.Kind.TheVariants as K
use Rattle.iloc_rules.proofs.Basics.Members.{from_append, from_filter}
use Rattle.iloc_rules.proofs.Basics.Slots.{count_in}
use Rattle.iloc_rules.proofs.Choice.FirstOfAll.{first_in, first_some}

-- whether the rules of the units hold of the kinds on unit 0 and unit 1
abbrev fits : Option Kind → Option Kind → Bool
fits zero one = not (is_some_kind is_mult zero) && not (is_some_kind is_memory one)
    && not (is_some_kind is_output zero && is_some_kind is_output one)

-- whether the choice puts the first on unit 1
abbrev goes_on_one : Kind → Kind → Bool
goes_on_one a b = is_mult a || is_memory b

alone_on_one : (k : Kind) → (is_mult k || false) ≡ true → fits None (Some k) ≡ true
alone_on_one K.Mult is = refl
alone_on_one _ is = absurd (true≢false (sym is))

alone_on_zero : (k : Kind) → (is_mult k || false) ≡ false → fits (Some k) None ≡ true
alone_on_zero K.Mult is = absurd (true≢false is)
alone_on_zero _ is = refl

first_on_one : (a b : Kind) → (not (may_stand_beside a b) || (not (goes_on_one a b) || fits (Some b) (Some a))) ≡ true
first_on_one a b = grind arith

first_on_zero : (a b : Kind) → (not (may_stand_beside a b) || (goes_on_one a b || fits (Some a) (Some b))) ≡ true
first_on_zero a b = grind arith

-- the second, if any, can go beside the first
abbrev FitsBeside : List Op → ℕ → Option ℕ → Type 0
FitsBeside ops a b = (k : ℕ) → b ≡ Some k → may_stand_beside (kind (op_at ops a)) (kind (op_at ops k)) ≡ true

-- what holds unless a test fails, where both tests hold
if_both : (p q r : Bool) → (not p || (not q || r)) ≡ true → p ≡ true → q ≡ true → r ≡ true
if_both true true r holds first second = holds
if_both true false r holds first second = absurd (true≢false (sym second))
if_both false q r holds first second = absurd (true≢false (sym first))

-- and where the first alone holds
if_first : (p q r : Bool) → (not p || (q || r)) ≡ true → p ≡ true → q ≡ false → r ≡ true
if_first true false r holds first second = holds
if_first true true r holds first second = absurd (true≢false second)
if_first false q r holds first second = absurd (true≢false (sym first))

on_units_fit : (ops : List Op) (a : ℕ) (b : Option ℕ) → FitsBeside ops a b → keeps_units ops (on_units ops a b) ≡ true
on_units_fit ops a None beside =
    let first = kind (op_at ops a) in
    cond_both {A = Row} (is_mult first || false) (record { zero = None; one = Some a })
    (record { zero = Some a; one = None })
    (λ row. keeps_units ops row ≡ true) (alone_on_one first) (alone_on_zero first)
on_units_fit ops a (Some b) beside =
    let first = kind (op_at ops a) in
    let second = kind (op_at ops b) in
    cond_both {A = Row} (goes_on_one first second) (record { zero = Some b; one = Some a })
    (record { zero = Some a; one = Some b })
    (λ row. keeps_units ops row ≡ true)
    (if_both (may_stand_beside first second) (goes_on_one first second) (fits (Some second) (Some first))
    (first_on_one first second) (beside b refl))
    (if_first (may_stand_beside first second) (goes_on_one first second) (fits (Some first) (Some second))
    (first_on_zero first second) (beside b refl))

-- a slot for each of the two, in one order or the other
slots_of : (ops : List Op) (a : ℕ) (b : Option ℕ) → (slots (on_units ops a b) ≡ a ∷ option_to_list b)
    ⊎ (slots (on_units ops a b) ≡ option_to_list b ++ a ∷ [])
slots_of ops a b = grind arith

pub in_option : (b : Option ℕ) (i : ℕ) → In (option_to_list b) i → b ≡ Some i
in_option b i there = grind arith

from_slots : (ops : List Op) (a : ℕ) (b : Option ℕ) (i : ℕ) → In (slots (on_units ops a b)) i → (a ≡ i) ⊎ (b ≡ Some i)
from_slots ops a b i there = grind (arith, from_append, in_option, slots_of)

-- the two are apart
abbrev Apart : ℕ → Option ℕ → Type 0
Apart a b = (k : ℕ) → b ≡ Some k → a ≢ k

count_two : (i a : ℕ) (b : Option ℕ) → Apart a b → (a ≡ i) ⊎ (b ≡ Some i)
    → (count_by (λ j. i == j) (a ∷ option_to_list b) ≡ 1) × (count_by (λ j. i == j) (option_to_list b ++ a ∷ []) ≡ 1)
count_two i a b apart held = grind (arith, eq-eqb, ne_eqb)

count_once : (ops : List Op) (a : ℕ) (b : Option ℕ) (i : ℕ) → Apart a b → In (slots (on_units ops a b)) i
    → count_in (on_units ops a b) i ≡ 1
count_once ops a b i apart there =
    let two = count_two i a b apart (from_slots ops a b i there) in
    elim (slots_of ops a b) [
      | inl is ↦ ap (count_by (λ j. i == j)) is ∙ two.0
      | inr is ↦ ap (count_by (λ j. i == j)) is ∙ two.1
    ]

module _ (ops : List Op) (prios candidates : List ℕ) where
  -- the candidates that can go beside a, without it
  abbrev beside : ℕ → List ℕ
  beside a = filter (λ b. not (a == b) && may_stand_beside (kind (op_at ops a)) (kind (op_at ops b))) candidates

  second : (a k : ℕ) → first_of_all prios (beside a) ≡ Some k → In candidates k
      × ((not (a == k) && may_stand_beside (kind (op_at ops a)) (kind (op_at ops k))) ≡ true)
  second a k is = grind (arith, first_in prios (beside a) k is, from_filter)

  second_fits : (a : ℕ) → FitsBeside ops a (first_of_all prios (beside a))
  second_fits a k is = (and_parts (not (a == k)) (may_stand_beside (kind (op_at ops a)) (kind (op_at ops k)))
      (second a k is).1).1

  second_apart : (a : ℕ) → Apart a (first_of_all prios (beside a))
  second_apart a k is =
      eqb-false a k (not-true (a == k) (and_parts (not (a == k))
      (may_stand_beside (kind (op_at ops a)) (kind (op_at ops k))) (second a k is).1).0)

  with_units : (a : Option ℕ) → keeps_units ops (chosen_with ops prios candidates a) ≡ true
  with_units a = grind (arith, on_units_fit, second_fits)

  with_in : (a : Option ℕ) (i : ℕ) → ((k : ℕ) → a ≡ Some k → In candidates k)
      → In (slots (chosen_with ops prios candidates a)) i → In candidates i
  with_in None i first there = absurd there
  with_in (Some a) i first there = grind (arith, from_slots ops a (first_of_all prios (beside a)) i there, second a i)

  with_once : (a : Option ℕ) (i : ℕ) → In (slots (chosen_with ops prios candidates a)) i
      → count_in (chosen_with ops prios candidates a) i ≡ 1
  with_once None i there = absurd there
  with_once (Some a) i there = count_once ops a (first_of_all prios (beside a)) i (second_apart a) there

  with_some : (a : Option ℕ) (k : ℕ) → a ≡ Some k → slots (chosen_with ops prios candidates a) ≢ []
  with_some a k is = grind arith

  -- the choice keeps the rules of the units
  pub chosen_units : keeps_units ops (chosen ops prios candidates) ≡ true
  chosen_units = with_units (first_of_all prios candidates)

  -- what is chosen is a candidate
  pub chosen_in : (i : ℕ) → In (slots (chosen ops prios candidates)) i → In candidates i
  chosen_in i there = with_in (first_of_all prios candidates) i (first_in prios candidates) there

  -- nothing is chosen twice
  pub once_in : (i : ℕ) → In (slots (chosen ops prios candidates)) i → count_in (chosen ops prios candidates) i ≡ 1
  once_in i there = with_once (first_of_all prios candidates) i there

  -- where there is a candidate, one is chosen
  pub chosen_some : (i : ℕ) → In candidates i → slots (chosen ops prios candidates) ≢ []
  chosen_some i there = grind (arith, first_some prios candidates i there, with_some (first_of_all prios candidates))
