-- Logs whose entries arrive at the same cycles with the same effects, one by one.
use Rattle.iloc_validation.proofs.Common.{◌≡◌, ℕ, Bool, ◌||◌, List, [], ◌∷◌, ◌++◌, map, ℤ, nat_le, Some, None, filter, Option, option_map, refl, ap, ap₂, inl, inr, arith, fun_ext, emitted, emitted_by, has_fault, is_fault, is_write_to, writes_to, written_or, Issued, executed_in, last_due, later, timed_outcome_of, word_in, In}
use Rattle.iloc_meaning.specs.Memory.{word_at}
use Rattle.iloc_timed.specs.Timed.{arrived}

pub record Alike (x y : Issued) : Type 0 where
  pub due : x.due ≡ y.due
  pub effect : x.executed.effect ≡ y.executed.effect

abbrev pub AlikeAll : List Issued → List Issued → Type 0
AlikeAll [] [] = Unit {0}
AlikeAll (x ∷ xs) (y ∷ ys) = Alike x y × AlikeAll xs ys
AlikeAll a b = ⊥

abbrev AlikeOption : Option Issued → Option Issued → Type 0
AlikeOption None None = Unit {0}
AlikeOption (Some x) (Some y) = Alike x y
AlikeOption a b = ⊥

pub alike_map : (f g : ℕ → Issued) (ks : List ℕ) → ((k : ℕ) → In ks k → Alike (f k) (g k)) → AlikeAll (map f ks) (map g ks)
alike_map f g [] each = tt
alike_map f g (k ∷ ks) each = (each k (inl refl), alike_map f g ks (λ j there. each j (inr there)))

filter_alike : (p : Issued → Bool) → ((x y : Issued) → Alike x y → p x ≡ p y) → (xs ys : List Issued) → AlikeAll xs ys
    → AlikeAll (filter p xs) (filter p ys)
filter_alike p same [] [] all = tt
filter_alike p same (x ∷ xs) (y ∷ ys) all = grind (arith, filter_alike p same xs ys all.1)
filter_alike p same xs ys all = absurd all

later_alike : (x y : Issued) (o o' : Option Issued) → Alike x y → AlikeOption o o' → Alike (later x o) (later y o')
later_alike x y o o' one others = grind arith

last_alike : (xs ys : List Issued) → AlikeAll xs ys → AlikeOption (last_due xs) (last_due ys)
last_alike [] [] all = tt
last_alike (x ∷ xs) (y ∷ ys) all = later_alike x y (last_due xs) (last_due ys) all.0 (last_alike xs ys all.1)
last_alike xs ys all = absurd all

written_alike : (word : ℤ) (o o' : Option Issued) → AlikeOption o o'
    → written_or word (option_map (λ (e : Issued). e.executed) o) ≡ written_or word (option_map (λ (e : Issued). e.executed) o')
written_alike word o o' same = grind arith

pub words_alike : (memory : List ℤ) (xs ys : List Issued) (a : ℕ) → AlikeAll xs ys
    → word_in memory xs a ≡ word_in memory ys a
words_alike memory xs ys a all =
    written_alike (word_at memory a) _ _ (last_alike _ _ (filter_alike (λ (e : Issued). writes_to a e.executed)
    (λ x y same. ap (is_write_to a) same.effect) xs ys all))

pub arrived_alike : (c : ℕ) (xs ys : List Issued) → AlikeAll xs ys → AlikeAll (arrived c xs) (arrived c ys)
arrived_alike c xs ys all =
    filter_alike (λ (e : Issued). nat_le e.due c) (λ x y same. ap (λ d. nat_le d c) same.due) xs ys all

faults_alike : (xs ys : List Issued) → AlikeAll xs ys → has_fault (executed_in xs) ≡ has_fault (executed_in ys)
faults_alike [] [] all = refl
faults_alike (x ∷ xs) (y ∷ ys) all =
    ap₂ (λ (b b' : Bool). b || b') (ap is_fault all.0.effect) (faults_alike xs ys all.1)
faults_alike xs ys all = absurd all

emitted_alike : (xs ys : List Issued) → AlikeAll xs ys → emitted (executed_in xs) ≡ emitted (executed_in ys)
emitted_alike [] [] all = refl
emitted_alike (x ∷ xs) (y ∷ ys) all =
    ap₂ (λ (ws ws' : List ℤ). ws ++ ws') (emitted_alike xs ys all.1) (ap emitted_by all.0.effect)
emitted_alike xs ys all = absurd all

pub outcome_alike : (memory : List ℤ) (xs ys : List Issued) → AlikeAll xs ys
    → timed_outcome_of memory xs ≡ timed_outcome_of memory ys
outcome_alike memory xs ys all = grind (arith, emitted_alike, faults_alike, fun_ext, words_alike)
