-- Addresses that are good where others are.
use Rattle.iloc_terms.proofs.Common.{◌≡◌, ℕ, ◌+◌, ◌%◌, ◌<◌, ◌≤◌, Bool, true, false, not, List, [], ◌∷◌, ℤ, pos, negsuc, ◌+ℤ◌, nat_le, ◌==◌, slice_index_or, FitsSigned, Option, sym, refl, ap, ◌∙◌, inl, inr, arith, w32, rules, eq-eqb, and_parts, eqb-true, le-leb, leb-true, or_cases, or_right, int_wrap-add_left, int_wrap_fits, ints, by_bool, is_good, wrapped, ArePartsOf, Meaning, base_word, Node}
use Rattle.iloc_terms.specs.Steps.Symbols.{some_bad}
use Rattle.iloc_terms.specs.Steps.Agreement.{is_in, AreMarks, IsSurelyGood, IsGoodWith, IsBadWith}

-- a bad address that stands in the list
bad_among : (d : Meaning) (those : List ℕ) (k : ℕ) → is_in those k ≡ true → not (is_good (d.word k)) ≡ true
    → some_bad d those ≡ true
bad_among d [] k there bad = absurd cc
bad_among d (j ∷ those) k there bad = elim (or_cases (k == j) (is_in those k) there) [
  | inl here ↦
      let same : k ≡ j = eqb-true k j here in
      let first : not (is_good (d.word j)) ≡ true = rw (← same) bad in
      rw first refl
  | inr later ↦ or_right (not (is_good (d.word j))) (some_bad d those) (bad_among d those k later bad)
]

-- an address that is good where two of the list are
pub bad_with : (nodes : List Node) (marks : List Bool) (those : List ℕ) (one other k : ℕ) → AreMarks those marks
    → slice_index_or marks one false ≡ true → slice_index_or marks other false ≡ true
    → IsGoodWith nodes one other k → IsBadWith nodes those k
bad_with nodes marks those one other k are first second good = λ memory d meaning bad.
    by_bool (is_good (d.word one))
    (λ low. by_bool (is_good (d.word other))
    (λ high. let no : false ≡ true = rw (good memory d meaning low high) at bad in absurd cc)
    (λ high. bad_among d those other (are other second) (rw high refl)))
    (λ low. bad_among d those one (are one first) (rw low refl))

pub bad_marked : (nodes : List Node) (marks : List Bool) (those : List ℕ) (k : ℕ) → AreMarks those marks
    → slice_index_or marks k false ≡ true → IsBadWith nodes those k
bad_marked nodes marks those k are marked = λ memory d meaning bad. bad_among d those k (are k marked) bad

pub never_bad : (nodes : List Node) (those : List ℕ) (k : ℕ) → IsSurelyGood nodes k → IsBadWith nodes those k
never_bad nodes those k good = λ memory d meaning bad.
    let no : false ≡ true = rw (good memory d meaning) at bad in absurd cc

-- so far above a good address, below 2^31, nothing wraps
raised : (base low : ℤ) (a n : ℕ) → pos a ≡ wrapped (base +ℤ low) → a + n < 131072
    → wrapped (base +ℤ (low +ℤ pos n)) ≡ pos (a + n)
raised base low a n is small =
    let order : base +ℤ (low +ℤ pos n) ≡ (base +ℤ low) +ℤ pos n = omega (arith, ints) in
    let fits : FitsSigned w32 (pos (a + n)) = search rules in
    ap (λ x. wrapped x) order ∙ sym (int_wrap-add_left w32 (base +ℤ low) (pos n))
    ∙ ap (λ x. wrapped (x +ℤ pos n)) (sym is) ∙ int_wrap_fits w32 (pos (a + n)) fits

between_numbers : (a part whole : ℕ) → part ≤ whole → part % 4 ≡ 0 → is_good (pos a) ≡ true
    → is_good (pos (a + whole)) ≡ true → is_good (pos (a + part)) ≡ true
between_numbers a part whole within words first last =
    let low : a % 4 ≡ 0 = eqb-true (a % 4) 0 (and_parts (a % 4 == 0) (nat_le a 65532) first).0 in
    let upto : a + whole ≤ 65532 =
    leb-true (a + whole) 65532 (and_parts ((a + whole) % 4 == 0) (nat_le (a + whole) 65532) last).1 in
    let word : (a + part) % 4 ≡ 0 = omega arith in
    let below : nat_le (a + part) 65532 ≡ true = le-leb _ _ (omega arith) in
    rw (eq-eqb _ _ word) below

-- what is a number of words above a good address, and not above another, is good
pub good_between : (base low c high : ℤ) (part whole : ℕ) → c ≡ low +ℤ pos part → high ≡ low +ℤ pos whole
    → part % 4 ≡ 0 → part ≤ whole → whole < 65536 → is_good (wrapped (base +ℤ low)) ≡ true
    → is_good (wrapped (base +ℤ high)) ≡ true → is_good (wrapped (base +ℤ c)) ≡ true
good_between base low c high part whole middle top words within small first last =
    from (wrapped (base +ℤ low)) refl first
  where
    from : (z : ℤ) → z ≡ wrapped (base +ℤ low) → is_good z ≡ true → is_good (wrapped (base +ℤ c)) ≡ true
    from (negsuc n) is good = absurd cc
    from (pos a) is good =
        let upto : a ≤ 65532 = leb-true a 65532 (and_parts (a % 4 == 0) (nat_le a 65532) good).1 in
        let up : wrapped (base +ℤ high) ≡ pos (a + whole) =
        ap (λ z. wrapped (base +ℤ z)) top ∙ raised base low a whole is (omega arith) in
        let on : wrapped (base +ℤ c) ≡ pos (a + part) =
        ap (λ z. wrapped (base +ℤ z)) middle ∙ raised base low a part is (omega arith) in
        rw on (between_numbers a part whole within words good (rw up at last))

-- the same of addresses with one base
pub good_between_parts : (d : Meaning) (one other k : ℕ) (base first_base last_base : Option ℕ) (low c high : ℤ)
    → ArePartsOf d one first_base low → ArePartsOf d other last_base high → ArePartsOf d k base c
    → first_base ≡ base → last_base ≡ base
    → ((at : ℤ) → is_good (wrapped (at +ℤ low)) ≡ true → is_good (wrapped (at +ℤ high)) ≡ true
    → is_good (wrapped (at +ℤ c)) ≡ true)
    → is_good (d.word one) ≡ true → is_good (d.word other) ≡ true → is_good (d.word k) ≡ true
good_between_parts d one other k base first_base last_base low c high first last middle same also between good too =
    let below : is_good (wrapped (base_word d base +ℤ low)) ≡ true =
    rw (← same) (rw (← first) good) in
    let above : is_good (wrapped (base_word d base +ℤ high)) ≡ true =
    rw (← also) (rw (← last) too) in
    rw middle (between (base_word d base) below above)
