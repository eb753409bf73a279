-- One address more is counted; for `AddressCounts`.
use Rattle.iloc_addresses.proofs.Common.{◌≡◌, ℕ, ◌+◌, ◌-◌, ◌≤◌, Bool, true, false, cond, not, ◌&&◌, ℤ, if◌then◌else◌, ◌==◌, Some, None, Option, nat_cmp, int_cmp, int_eq, is_eq, Ordering, Less, Equal, Greater, unwrap_or, sym, refl, ap, ◌∙◌, true≢false, arith, eqb-true, and_parts, Decides-int_eq, get, by_bool, are_apart, Word, Based, Known, IsShort, constant_of, AreNested, base_cmp, base_of, near, with_base, with_both, word_cmp}
use Rattle.std.specs.Ordering.{eq_by_cmp, ordering_then}
use Rattle.iloc_meaning.specs.Arithmetic.{wrapped}
use Rattle.iloc_addresses.specs.declared.successors.address_counts.AddressCounts.{AddressCounts}

pub numbers_are : (a b : ℕ) → eq_by_cmp nat_cmp a b ≡ (a == b)
numbers_are a b = grind arith

one_base : (a b : Option ℕ) → is_eq (base_cmp a b) ≡ true → a ≡ b
one_base None None is = refl
one_base (Some a) (Some b) is = ap Some (eqb-true a b (sym (numbers_are a b) ∙ is))
one_base None (Some b) is = grind arith
one_base (Some a) None is = grind arith

-- a key is another just where both parts are
word_is : (a b : Option ℕ) (c d : ℤ) → is_eq (word_cmp (a, c) (b, d)) ≡ (is_eq (base_cmp a b) && int_eq c d)
word_is a b c d = by_ordering (base_cmp a b) (int_cmp c d)
  where
    by_ordering : (x y : Ordering) → is_eq (ordering_then x y) ≡ (is_eq x && is_eq y)
    by_ordering Less y = refl
    by_ordering Equal y = refl
    by_ordering Greater y = refl

short_constants : (c d : ℤ) → IsShort c → IsShort d → int_eq (wrapped d) (wrapped c) ≡ int_eq c d
short_constants c d short other = by_bool (int_eq c d)
    (λ t. (Decides-int_eq (wrapped d) (wrapped c)).1 (ap wrapped (sym ((Decides-int_eq c d).0 t))) ∙ sym t)
    (λ f. by_bool (int_eq (wrapped d) (wrapped c))
    (λ t. absurd (true≢false (sym ((Decides-int_eq c d).1 (sym short ∙ sym ((Decides-int_eq (wrapped d) (wrapped c)).0 t) ∙ other)) ∙ f)))
    (λ g. g ∙ sym f))

apart_is : (a w : Word) → IsShort (constant_of a) → IsShort (constant_of w) → are_apart w a
    ≡ (is_eq (base_cmp (base_of a) (base_of w)) && not (int_eq (constant_of a) (constant_of w)))
apart_is (Known c) (Known d) short other = ap not (short_constants c d short other)
apart_is (Based a c) (Based b d) short other = grind (arith, numbers_are, short_constants)
apart_is (Known c) (Based b d) short other = refl
apart_is (Based a c) (Known d) short other = refl

unwrapped : (b : Bool) (n : ℕ) (o : Option ℕ) → unwrap_or (cond b (Some n) o) 0 ≡ cond b n (unwrap_or o 0)
unwrapped true n o = refl
unwrapped false n o = refl

pub at_most_one : (b : Bool) → cond {A = ℕ} b 1 0 ≤ 1
at_most_one true = omega arith
at_most_one false = omega arith

-- what one address more makes of the counts
module _ (old new : AddressCounts) (a : Word) (base : Option ℕ) (constant : ℤ) (some both : ℕ) (nested : AreNested old)
    (its_base : base ≡ base_of a) (its_constant : constant ≡ constant_of a) (some_is : some ≡ with_base old base)
    (both_is : both ≡ with_both old base constant) (all : new.all ≡ old.all + 1)
    (bases : (q : Option ℕ) → get base_cmp new.by_base q
    ≡ cond (is_eq (base_cmp base q)) (Some (some + 1)) (get base_cmp old.by_base q))
    (words : (q : Option ℕ × ℤ) → get word_cmp new.by_word q
    ≡ cond (is_eq (word_cmp (base, constant) q)) (Some (both + 1)) (get word_cmp old.by_word q)) where
  more_bases : (q : Option ℕ) → with_base new q ≡ with_base old q + cond (is_eq (base_cmp base q)) 1 0
  more_bases q =
      let value : with_base new q ≡ cond (is_eq (base_cmp base q)) (some + 1) (with_base old q) =
      ap (λ o. unwrap_or o 0) (bases q) ∙ unwrapped (is_eq (base_cmp base q)) (some + 1) (get base_cmp old.by_base q) in
      by_bool (is_eq (base_cmp base q))
      (λ t.
      let here : with_base old base ≡ with_base old q = ap (with_base old) (one_base base q t) in
      let is : with_base new q ≡ some + 1 = value ∙ ap (λ b. cond b (some + 1) (with_base old q)) t in
      let one : cond {A = ℕ} (is_eq (base_cmp base q)) 1 0 ≡ 1 = ap (λ b. cond {A = ℕ} b 1 0) t in
      omega arith)
      (λ f.
      let is : with_base new q ≡ with_base old q = value ∙ ap (λ b. cond b (some + 1) (with_base old q)) f in
      let none : cond {A = ℕ} (is_eq (base_cmp base q)) 1 0 ≡ 0 = ap (λ b. cond {A = ℕ} b 1 0) f in
      omega arith)

  more_words : (q : Option ℕ) (d : ℤ) → with_both new q d
      ≡ with_both old q d + cond (is_eq (base_cmp base q) && int_eq constant d) 1 0
  more_words q d =
      let value : with_both new q d ≡ cond (is_eq (base_cmp base q) && int_eq constant d) (both + 1) (with_both old q d) =
      ap (λ o. unwrap_or o 0) (words (q, d))
      ∙ unwrapped (is_eq (word_cmp (base, constant) (q, d))) (both + 1) (get word_cmp old.by_word (q, d))
      ∙ ap (λ b. cond b (both + 1) (with_both old q d)) (word_is base q constant d) in
      by_bool (is_eq (base_cmp base q) && int_eq constant d)
      (λ t.
      let parts = and_parts (is_eq (base_cmp base q)) (int_eq constant d) t in
      let here : with_both old base constant ≡ with_both old q d =
      ap (λ b. with_both old b constant) (one_base base q parts.0)
      ∙ ap (with_both old q) ((Decides-int_eq constant d).0 parts.1) in
      let is : with_both new q d ≡ both + 1 = value ∙ ap (λ b. cond b (both + 1) (with_both old q d)) t in
      let one : cond {A = ℕ} (is_eq (base_cmp base q) && int_eq constant d) 1 0 ≡ 1 = ap (λ b. cond {A = ℕ} b 1 0) t in
      omega arith)
      (λ f.
      let is : with_both new q d ≡ with_both old q d = value ∙ ap (λ b. cond b (both + 1) (with_both old q d)) f in
      let none : cond {A = ℕ} (is_eq (base_cmp base q) && int_eq constant d) 1 0 ≡ 0 = ap (λ b. cond {A = ℕ} b 1 0) f in
      omega arith)

  no_more : (b c : Bool) (x y : ℕ) → x ≤ y → x + cond (b && c) 1 0 ≤ y + cond b 1 0
  no_more true true x y few = omega arith
  no_more true false x y few = omega arith
  no_more false c x y few = omega arith

  pub nested_more : AreNested new
  nested_more = record {
    bases = λ q. omega (arith, more_bases q, nested.bases q, at_most_one (is_eq (base_cmp base q)), all);
    words = λ q d.
        let few = no_more (is_eq (base_cmp base q)) (int_eq constant d) (with_both old q d) (with_base old q)
        (nested.words q d) in
        omega (arith, more_bases q, more_words q d, few);
  }

  one_near : (b c : Bool) (n some both n' some' both' : ℕ) → some ≤ n → n' ≡ n + 1 → some' ≡ some + cond b 1 0
      → both' ≡ both + cond (b && c) 1 0 → n' - some' + both' ≡ n - some + both + cond (b && not c) 0 1
  one_near true true n some both n' some' both' few e f g = omega arith
  one_near true false n some both n' some' both' few e f g = omega arith
  one_near false c n some both n' some' both' few e f g = omega arith

  pub near_more : IsShort (constant_of a) → (w : Word) → IsShort (constant_of w)
      → near new w ≡ near old w + (if are_apart w a then 0 else 1)
  near_more short w other =
      one_near (is_eq (base_cmp base (base_of w))) (int_eq constant (constant_of w)) old.all (with_base old (base_of w))
      (with_both old (base_of w) (constant_of w)) new.all (with_base new (base_of w))
      (with_both new (base_of w) (constant_of w)) (nested.bases (base_of w)) all (more_bases (base_of w))
      (more_words (base_of w) (constant_of w))
      ∙ ap (λ b. near old w + cond (is_eq (base_cmp b (base_of w)) && not (int_eq constant (constant_of w))) 0 1) its_base
      ∙ ap (λ d. near old w + cond (is_eq (base_cmp (base_of a) (base_of w)) && not (int_eq d (constant_of w))) 0 1) its_constant
      ∙ ap (λ b. near old w + cond b 0 1) (sym (apart_is a w short other))
