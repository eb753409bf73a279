-- The lists of the wheel.
use Rattle.std.proofs.Common.{◌≡◌, ◌≢◌, ◌<◌, ◌≤◌, ℕ, ◌+◌, ◌%◌, List, [], ◌∷◌, ◌++◌, length, get_or, set, map, Some, None, Vec, Global, arith, refl, ap, ◌∙◌, append-nil, eq-eqb, ne_eqb, length-set, get_or-set_same, get_or-set_other}
use Rattle.std.proofs.lemmas.Bool.{cases_eq}
use Rattle.std.proofs.lemmas.List.{get_or-map, map-set}
use Rattle.iloc_timed.specs.declared.wheel.Pending.{Pending}
use Rattle.iloc_timed.specs.Timed.{Issued}
use Rattle.iloc_timed.specs.Steps.Pending.{sent}
use Rattle.iloc_timed.specs.Wheel.{list_at}
use Rattle.iloc_timed.specs.Steps.Wheel.{due_at, AreUnderWay}
use Rattle.iloc_timed.specs.Steps.Machine.{AllLand}

-- one list of a `Vec` of lists, read and written
pub items_set : {A : Type 0} (lists : List (Vec A Global)) (now : List (List A)) (k : ℕ) (list : Vec A Global)
    → map (λ l. l.items) lists ≡ now → map (λ l. l.items) (set lists k list) ≡ set now k list.items
items_set {A} lists now k list same = map-set (λ (l : Vec A Global). l.items) lists k list
    ∙ ap (λ n. set n k list.items) same

pub items_at : {A : Type 0} (lists : List (Vec A Global)) (now : List (List A)) (k : ℕ) (list : Vec A Global)
    → map (λ l. l.items) lists ≡ now → k < length lists → list ≡ get_or lists k list → get_or now k [] ≡ list.items
items_at lists now k list list' same within = grind (arith, get_or-map)

-- two of 16 cycles in a row have two lists
apart : (c d : ℕ) → c < d → d < c + 16 → d % 16 ≢ c % 16
apart c d before after same = omega arith

turn : (c : ℕ) → (c + 16) % 16 ≡ c % 16
turn c = omega arith

-- nothing is due at a cycle that comes after every due one
none_due : (c d : ℕ) (log : List Issued) → AllLand c log → c ≤ d → due_at d log ≡ []
none_due c d [] all later = refl
none_due c d (e ∷ earlier) all later = grind (arith, ne_eqb, none_due c d earlier all.2 later)

-- what is due at cycle c has landed, and its list is empty
pub cleared : (c : ℕ) (log : List Issued) (lists : List (List Pending)) → AllLand (c + 16) log → AreUnderWay c log lists
    → AreUnderWay (c + 1) log (set lists (c % 16) [])
cleared c log lists all way = grind (arith, length-set, cases_eq, turn, get_or-set_same, none_due, get_or-set_other, apart)

-- something is issued that sends a result on its way
pub pushed : (c : ℕ) (e : Issued) (log : List Issued) (lists : List (List Pending)) (p : Pending) → c ≤ e.due
    → e.due < c + 16 → sent e.executed ≡ Some p → AreUnderWay c log lists
    → AreUnderWay c (e ∷ log) (set lists (e.due % 16) (list_at lists e.due ++ p ∷ []))
pushed c e log lists p from upto sends way =
    grind (arith, length-set, cases_eq, eq-eqb, get_or-set_same, ne_eqb, append-nil, get_or-set_other)

-- something is issued that sends nothing
pub not_pushed : (c : ℕ) (e : Issued) (log : List Issued) (lists : List (List Pending)) → sent e.executed ≡ None
    → AreUnderWay c log lists → AreUnderWay c (e ∷ log) lists
not_pushed c e log lists sends way = grind (arith, cases_eq, eq-eqb, append-nil, ne_eqb)
