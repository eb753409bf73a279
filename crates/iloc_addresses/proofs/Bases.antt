-- Words with one base, and words that are apart; for `Accesses` and `MemoryDependences`.
use Rattle.iloc_addresses.proofs.Common.{◌≡◌, ℕ, Bool, true, false, not, ◌&&◌, ℤ, ◌==◌, Some, None, Option, int_eq, sym, refl, ap, ◌∙◌, arith, eqb-true, and_parts, false≢true, Decides-int_eq, by_bool, apart_if_both, are_apart, Word, Based, Known, IsShort, at_constant, constant_of, have_one_base}
use Rattle.iloc_meaning.specs.Arithmetic.{wrapped}

-- with one base they differ by their constants alone
pub at_own : (v w : Word) → have_one_base v w ≡ true → at_constant v (constant_of w) ≡ w
at_own (Known c) (Known d) one = refl
at_own (Based a c) (Based b d) one = ap (λ x. Based x d) (eqb-true a b one)
at_own (Known c) (Based b d) one = absurd (false≢true one)
at_own (Based a c) (Known d) one = absurd (false≢true one)

pub at_same : (v w : Word) (c : ℤ) → have_one_base v w ≡ true → at_constant v c ≡ at_constant w c
at_same (Known c) (Known d) e one = refl
at_same (Based a c) (Based b d) e one = ap (λ x. Based x e) (eqb-true a b one)
at_same (Known c) (Based b d) e one = absurd (false≢true one)
at_same (Based a c) (Known d) e one = absurd (false≢true one)

-- of two words with one base, a third has one with both or with neither
pub same_base : (u v w : Word) → have_one_base v w ≡ true → have_one_base u w ≡ have_one_base u v
same_base (Known c) (Known d) (Known e) one = refl
same_base (Based a c) (Known d) (Known e) one = refl
same_base (Known c) (Based b d) (Based z e) one = refl
same_base (Based a c) (Based b d) (Based z e) one = ap (λ x. a == x) (sym (eqb-true b z one))
same_base u (Known d) (Based z e) one = absurd (false≢true one)
same_base u (Based b d) (Known e) one = absurd (false≢true one)

same_int : (c d : ℤ) → int_eq c d ≡ true → c ≡ d
same_int c d t = (Decides-int_eq c d).0 t

int_same : (c d : ℤ) → c ≡ d → int_eq c d ≡ true
int_same c d e = (Decides-int_eq c d).1 e

-- words that are apart have one base, and two constants
apart_constants : (c d : ℤ) → not (int_eq (wrapped c) (wrapped d)) ≡ true → int_eq c d ≡ false
apart_constants c d apart = by_bool (int_eq c d)
    (λ t. absurd (false≢true (ap not (sym (int_same (wrapped c) (wrapped d) (ap wrapped (same_int c d t)))) ∙ apart)))
    (λ f. f)

pub apart_one_base : (v w : Word) → are_apart v w ≡ true → have_one_base v w ≡ true
apart_one_base (Known c) (Known d) apart = refl
apart_one_base (Based a c) (Based b d) apart = (and_parts (a == b) _ apart).0
apart_one_base (Known c) (Based b d) apart = absurd (false≢true apart)
apart_one_base (Based a c) (Known d) apart = absurd (false≢true apart)

pub apart_two_constants : (v w : Word) → are_apart v w ≡ true → int_eq (constant_of v) (constant_of w) ≡ false
apart_two_constants (Known c) (Known d) apart = apart_constants c d apart
apart_two_constants (Based a c) (Based b d) apart = apart_constants c d (and_parts (a == b) _ apart).1
apart_two_constants (Known c) (Based b d) apart = absurd (false≢true apart)
apart_two_constants (Based a c) (Known d) apart = absurd (false≢true apart)

-- a word isn't apart from one with another base, nor from itself
pub near_other_base : (v w : Word) (c : ℤ) → have_one_base v w ≡ false → are_apart (at_constant v c) w ≡ false
near_other_base (Known c) (Known d) e two = absurd (false≢true (sym two))
near_other_base (Based a c) (Based b d) e two = ap (λ x. x && not (int_eq (wrapped e) (wrapped d))) two
near_other_base (Known c) (Based b d) e two = refl
near_other_base (Based a c) (Known d) e two = refl

not_differ : (c d : ℤ) → c ≡ d → not (int_eq c d) ≡ false
not_differ c d same = ap not (int_same c d same)

and_false : (a b : Bool) → b ≡ false → (a && b) ≡ false
and_false true b fails = fails
and_false false b fails = refl

pub near_itself : (w : Word) → are_apart w w ≡ false
near_itself (Known c) = not_differ (wrapped c) (wrapped c) refl
near_itself (Based a c) = and_false (a == a) _ (not_differ (wrapped c) (wrapped c) refl)

-- one with its base and another short constant is apart
far_constant : (c d : ℤ) → IsShort c → IsShort d → (c ≡ d → ⊥) → not (int_eq (wrapped c) (wrapped d)) ≡ true
far_constant c d short other differ = by_bool (int_eq (wrapped c) (wrapped d))
    (λ t. absurd (differ (sym short ∙ same_int (wrapped c) (wrapped d) t ∙ other)))
    (λ f. ap not f)

pub far_at : (w : Word) (c : ℤ) → IsShort c → IsShort (constant_of w) → (c ≡ constant_of w → ⊥)
    → are_apart (at_constant w c) w ≡ true
far_at (Known d) c short other differ = far_constant c d short other differ
far_at (Based b d) c short other differ =
    ap (λ x. x && not (int_eq (wrapped c) (wrapped d))) same ∙ far_constant c d short other differ
  where
    same : (b == b) ≡ true
    same = grind arith

-- it doesn't matter which is first
flipped : (c d : ℤ) → not (int_eq c d) ≡ not (int_eq d c)
flipped c d = by_bool (int_eq c d)
    (λ t. ap not (t ∙ sym (int_same d c (sym (same_int c d t)))))
    (λ f. by_bool (int_eq d c)
    (λ t. absurd (false≢true (sym f ∙ int_same c d (sym (same_int d c t)))))
    (λ g. ap not (f ∙ sym g)))

same_flipped : (a b : ℕ) → (a == b) ≡ (b == a)
same_flipped a b = grind arith

pub apart_flipped : (v w : Word) → are_apart v w ≡ are_apart w v
apart_flipped (Known c) (Known d) = flipped (wrapped c) (wrapped d)
apart_flipped (Based a c) (Based b d) =
    ap (λ x. x && not (int_eq (wrapped c) (wrapped d))) (same_flipped a b)
    ∙ ap (λ x. (b == a) && x) (flipped (wrapped c) (wrapped d))
apart_flipped (Known c) (Based b d) = refl
apart_flipped (Based a c) (Known d) = refl

pub both_flipped : (v w : Option Word) → apart_if_both v w ≡ apart_if_both w v
both_flipped None None = refl
both_flipped None (Some w) = refl
both_flipped (Some v) None = refl
both_flipped (Some v) (Some w) = apart_flipped v w
