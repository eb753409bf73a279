-- The last store by constant, noted in its slot or beside the slots, and that for a word; for `LastByConstant` and `Stores`.
use Rattle.iloc_addresses.proofs.Common.{◌≡◌, ℕ, zero, suc, ◌<◌, Bool, true, false, not, ◌&&◌, ◌||◌, ◌≢◌, ◌⊎◌, List, [], ◌∷◌, length, ℤ, if◌then◌else◌, ◌==◌, slice_get, Some, None, Option, int_cmp, int_eq, sym, refl, ap, ◌∙◌, inl, inr, arith, eqb-true, eqb-false, and_from, false≢true, Decides-int_eq, get, option_or, by_bool, are_apart, Word, IsShort, at_constant, constant_of, have_one_base, store_for, last_at}
use Rattle.std.proofs.Common.{slice_set}
use Rattle.std.proofs.lemmas.Option.{slice_get_within}
use Rattle.iloc_addresses.proofs.Bases.{apart_one_base, apart_two_constants, at_own, at_same, far_at, same_base}
use Rattle.iloc_addresses.specs.declared.dependences.last_by_constant.LastByConstant.{LastByConstant}
use Rattle.iloc_addresses.specs.declared.dependences.last_by_constant.Slot.{Slot}
use Rattle.iloc_addresses.specs.declared.dependences.stores.Stores.{Stores}
use Rattle.iloc_addresses.specs.Steps.LastByConstant.{Notes, op_in, op_then, place_of}

get_set_same : (xs : List Slot) (i : ℕ) (y : Slot) → i < length xs → slice_get (slice_set xs i y) i ≡ Some y
get_set_same [] i y h = absurd (omega arith)
get_set_same (x ∷ xs) zero y h = refl
get_set_same (x ∷ xs) (suc i) y h = get_set_same xs i y (omega arith)

get_set_other : (xs : List Slot) (i j : ℕ) (y : Slot) → j ≢ i → slice_get (slice_set xs i y) j ≡ slice_get xs j
get_set_other (x ∷ xs) zero zero y h = absurd (h refl)
get_set_other (x ∷ xs) (suc i) (suc j) y h = get_set_other xs i j y (λ e. h (ap suc e))
get_set_other xs i j y h = refl

-- what a slot has for a constant
here : (turn : ℕ) (c : ℤ) (other : Option ℕ) (s : Slot) → s.turn ≡ turn → s.constant ≡ c
    → op_then turn c other s ≡ Some s.op
here turn c other s now is = ap (λ b. if b then Some s.op else other)
    (and_from (s.turn == turn) (int_eq s.constant c) (grind arith) ((Decides-int_eq s.constant c).1 is))

not_here : (turn : ℕ) (c : ℤ) (other : Option ℕ) (s : Slot) → ((s.turn == turn) && int_eq s.constant c) ≡ false
    → op_then turn c other s ≡ other
not_here turn c other s fails = ap (λ b. if b then Some s.op else other) fails

held : (a b : Bool) → (not a || b) ≡ false → (a && b) ≡ false
held a b fails = grind arith

and_false : (a b : Bool) → b ≡ false → (a && b) ≡ false
and_false a b fails = grind arith

other_constant : (a : Bool) (q c d : ℤ) → (not a || int_eq q c) ≡ true → int_eq c d ≡ false → (a && int_eq q d) ≡ false
other_constant a q c d holds apart = by_bool (int_eq q c)
    (λ t. and_false a (int_eq q d) (ap (λ z. int_eq z d) ((Decides-int_eq q c).0 t) ∙ apart))
    (λ f. by_bool a
    (λ t. absurd (grind arith))
    (λ f. ap (λ b. b && int_eq q d) f))

module _ (old new : LastByConstant) (c : ℤ) (j : ℕ) where
  -- beside the slots
  module _ (slots : new.slots ≡ old.slots) (turn : new.turn ≡ old.turn) (noted : get int_cmp new.others c ≡ Some j)
      (rest : (d : ℤ) → int_eq c d ≡ false → get int_cmp new.others d ≡ get int_cmp old.others d) where
    as_before : (d : ℤ) → last_at new d ≡ op_in old.turn d (slice_get old.slots.items (place_of d)) (get int_cmp new.others d)
    as_before d = ap (λ v. op_in new.turn d (slice_get v.items (place_of d)) (get int_cmp new.others d)) slots
        ∙ ap (λ t. op_in t d (slice_get old.slots.items (place_of d)) (get int_cmp new.others d)) turn

    others_stay : (d : ℤ) → int_eq c d ≡ false → last_at new d ≡ last_at old d
    others_stay d apart = as_before d ∙ ap (op_in old.turn d (slice_get old.slots.items (place_of d))) (rest d apart)

    pub noted_past : slice_get old.slots.items (place_of c) ≡ None → Notes old new c j
    noted_past none = record {
      changed = as_before c ∙ ap (λ o. op_in old.turn c o (get int_cmp new.others c)) none ∙ noted;
      others = others_stay;
    }

    pub noted_beside : (s : Slot) → slice_get old.slots.items (place_of c) ≡ Some s
        → (not (s.turn == old.turn) || int_eq s.constant c) ≡ false → Notes old new c j
    noted_beside s some taken = record {
      changed = as_before c ∙ ap (λ o. op_in old.turn c o (get int_cmp new.others c)) some
          ∙ not_here old.turn c (get int_cmp new.others c) s (held (s.turn == old.turn) (int_eq s.constant c) taken) ∙ noted;
      others = others_stay;
    }

-- in its slot
module _ (old : LastByConstant) (c : ℤ) (j p : ℕ) (s t : Slot) (place : p ≡ place_of c) (now : t.turn ≡ old.turn)
    (is : t.constant ≡ c) (op : t.op ≡ j) (some : slice_get old.slots.items p ≡ Some s)
    (may : (not (s.turn == old.turn) || int_eq s.constant c) ≡ true) where
  own : slice_get (slice_set old.slots.items p t) p ≡ Some t
  own = get_set_same old.slots.items p t (slice_get_within old.slots.items p s some)

  pub noted_in : op_in old.turn c (slice_get (slice_set old.slots.items p t) (place_of c)) (get int_cmp old.others c) ≡ Some j
  noted_in = ap (λ o. op_in old.turn c o (get int_cmp old.others c)) (ap (slice_get (slice_set old.slots.items p t)) (sym place) ∙ own)
      ∙ here old.turn c (get int_cmp old.others c) t now is ∙ ap Some op

  pub others_in : (d : ℤ) → int_eq c d ≡ false
      → op_in old.turn d (slice_get (slice_set old.slots.items p t) (place_of d)) (get int_cmp old.others d) ≡ last_at old d
  others_in d apart = by_bool (place_of d == p)
      (λ e.
      let same : place_of d ≡ p = eqb-true (place_of d) p e in
      ap (λ o. op_in old.turn d o (get int_cmp old.others d)) (ap (slice_get (slice_set old.slots.items p t)) same ∙ own)
      ∙ not_here old.turn d (get int_cmp old.others d) t
      (and_false (t.turn == old.turn) (int_eq t.constant d) (ap (λ z. int_eq z d) is ∙ apart))
      ∙ sym (ap (λ o. op_in old.turn d o (get int_cmp old.others d)) (ap (slice_get old.slots.items) same ∙ some)
      ∙ not_here old.turn d (get int_cmp old.others d) s (other_constant (s.turn == old.turn) s.constant c d may apart)))
      (λ f. ap (λ o. op_in old.turn d o (get int_cmp old.others d))
      (get_set_other old.slots.items p (place_of d) t (eqb-false (place_of d) p f)))

-- the last store for a word, once one is noted at an address: before, what has one base with it was kept, or all anew
pub stored : (old : Stores) (mid new : LastByConstant) (other : Option ℕ) (address w : Word) (j : ℕ)
    → Notes mid new (constant_of address) j → IsShort (constant_of address) → IsShort (constant_of w)
    → ((have_one_base old.base address ≡ true) × (mid ≡ old.own) × (other ≡ old.other))
    ⊎ ((have_one_base old.base address ≡ false) × ((c : ℤ) → last_at mid c ≡ None) × (other ≡ old.last))
    → (if have_one_base address w then option_or (last_at new (constant_of w)) other else Some j)
    ≡ (if are_apart address w then store_for old w else Some j)
stored old mid new other address w j notes short fits was = by_bool (have_one_base address w)
    (λ one. by_bool (int_eq (constant_of address) (constant_of w))
    (λ t.
    let same : constant_of address ≡ constant_of w = (Decides-int_eq (constant_of address) (constant_of w)).0 t in
    let near : are_apart address w ≡ false = by_bool (are_apart address w)
    (λ apart. absurd (false≢true (sym (apart_two_constants address w apart) ∙ t))) (λ f. f) in
    if_one one ∙ ap (λ o. option_or o other) (ap (last_at new) (sym same) ∙ notes.changed) ∙ sym (if_apart near))
    (λ f.
    let far : are_apart address w ≡ true = ap (λ v. are_apart v w)
    (sym (at_own address address (own_base address)) ∙ at_same address w (constant_of address) one)
    ∙ far_at w (constant_of address) short fits
    (λ e. false≢true (sym f ∙ (Decides-int_eq (constant_of address) (constant_of w)).1 e)) in
    if_one one ∙ ap (λ o. option_or o other) (notes.others (constant_of w) f) ∙ before one ∙ sym (if_apart far)))
    (λ two.
    let near : are_apart address w ≡ false = by_bool (are_apart address w)
    (λ apart. absurd (false≢true (sym two ∙ apart_one_base address w apart))) (λ f. f) in
    if_one two ∙ sym (if_apart near))
  where
    if_one : {b : Bool} → have_one_base address w ≡ b
        → (if have_one_base address w then option_or (last_at new (constant_of w)) other else Some j)
        ≡ (if b then option_or (last_at new (constant_of w)) other else Some j)
    if_one is = ap (λ b. if b then option_or (last_at new (constant_of w)) other else Some j) is

    if_apart : {b : Bool} → are_apart address w ≡ b
        → (if are_apart address w then store_for old w else Some j) ≡ (if b then store_for old w else Some j)
    if_apart is = ap (λ b. if b then store_for old w else Some j) is

    own_base : (v : Word) → have_one_base v v ≡ true
    own_base v = grind arith

    before : have_one_base address w ≡ true → option_or (last_at mid (constant_of w)) other ≡ store_for old w
    before one = elim was [
      | inl kept ↦ ap (λ m. option_or (last_at m (constant_of w)) other) kept.1
          ∙ ap (option_or (last_at old.own (constant_of w))) kept.2
          ∙ sym (ap (λ b. if b then option_or (last_at old.own (constant_of w)) old.other else old.last)
          (same_base old.base address w one ∙ kept.0))
      | inr anew ↦ ap (λ o. option_or o other) (anew.1 (constant_of w)) ∙ anew.2
          ∙ sym (ap (λ b. if b then option_or (last_at old.own (constant_of w)) old.other else old.last)
          (same_base old.base address w one ∙ anew.0))
    ]
