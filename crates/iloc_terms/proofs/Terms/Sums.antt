-- Sums of terms.
use Rattle.iloc_terms.proofs.Common.{◌≡◌, ℤ, pos, ◌+ℤ◌, ◌*ℤ◌, FitsSigned, sym, ap, ◌∙◌, arith, w32, int_wrap-add_left, int_wrap-add_right, int_wrap-mul_left, int_wrap-mul_right, int_wrap_fits, ints, wrapped}
use Rattle.std.proofs.Math.IntN.{*ℤ_comm, zero-*ℤ}
use Rattle.iloc_terms.proofs.Terms.Products.{add-mul, mul-add, mul-assoc, times_one}

-- an atom is a term by itself
pub one_atom : (word : ℤ) → FitsSigned w32 word → word ≡ wrapped (pos 0 +ℤ word *ℤ pos 1)
one_atom word fits =
    let plain : pos 0 +ℤ word ≡ word = omega (arith, ints) in
    sym (int_wrap_fits w32 word fits) ∙ ap (λ x. wrapped x) (sym plain)
    ∙ ap (λ x. wrapped (pos 0 +ℤ x)) (sym (times_one word))

-- a term with the factor 0 adds nothing
pub no_atom : (rest word : ℤ) → FitsSigned w32 rest → rest ≡ wrapped (rest +ℤ word *ℤ pos 0)
no_atom rest word fits =
    let plain : rest +ℤ pos 0 ≡ rest = omega (arith, ints) in
    sym (int_wrap_fits w32 rest fits) ∙ ap (λ x. wrapped x) (sym plain)
    ∙ ap (λ x. wrapped (rest +ℤ x)) (sym (*ℤ_comm word (pos 0) ∙ zero-*ℤ word))

-- the factor of a term may be wrapped
pub term_wrapped : (rest word by : ℤ) → wrapped (rest +ℤ word *ℤ wrapped by) ≡ wrapped (rest +ℤ word *ℤ by)
term_wrapped rest word by = sym (int_wrap-add_right w32 rest (word *ℤ wrapped by))
    ∙ ap (λ x. wrapped (rest +ℤ x)) (int_wrap-mul_right w32 word by) ∙ int_wrap-add_right w32 rest (word *ℤ by)

-- a term before its own atom
pub one_more : (word by : ℤ) → wrapped (pos 0 +ℤ word *ℤ wrapped (by +ℤ pos 1)) ≡ wrapped (word +ℤ word *ℤ by)
one_more word by = term_wrapped (pos 0) word (by +ℤ pos 1)
    ∙ ap (λ x. wrapped (pos 0 +ℤ x)) (mul-add word by (pos 1) ∙ ap (λ x. word *ℤ by +ℤ x) (times_one word))
    ∙ ap (λ x. wrapped x) (order (word *ℤ by) word)
  where
    order : (a b : ℤ) → pos 0 +ℤ (a +ℤ b) ≡ b +ℤ a
    order a b = omega (arith, ints)

-- a term of the left base
pub left_term : (left right rest term : ℤ) → left ≡ wrapped (rest +ℤ term)
    → wrapped (left +ℤ right) ≡ wrapped ((rest +ℤ right) +ℤ term)
left_term left right rest term is =
    let order : (rest +ℤ term) +ℤ right ≡ (rest +ℤ right) +ℤ term = omega (arith, ints) in
    ap (λ x. wrapped (x +ℤ right)) is ∙ int_wrap-add_left w32 (rest +ℤ term) right ∙ ap (λ x. wrapped x) order

-- a term of the right one
pub right_term : (left right rest term : ℤ) → right ≡ wrapped (rest +ℤ term)
    → wrapped (left +ℤ right) ≡ wrapped ((left +ℤ rest) +ℤ term)
right_term left right rest term is =
    let order : left +ℤ (rest +ℤ term) ≡ (left +ℤ rest) +ℤ term = omega (arith, ints) in
    ap (λ x. wrapped (left +ℤ x)) is ∙ int_wrap-add_right w32 left (rest +ℤ term) ∙ ap (λ x. wrapped x) order

-- two terms of one atom
pub two_terms : (left right rest other word by more : ℤ) → left ≡ wrapped (rest +ℤ word *ℤ by)
    → right ≡ wrapped (other +ℤ word *ℤ more)
    → wrapped (left +ℤ right) ≡ wrapped ((rest +ℤ other) +ℤ word *ℤ wrapped (by +ℤ more))
two_terms left right rest other word by more is there =
    left_term left right rest (word *ℤ by) is
    ∙ sym (int_wrap-add_left w32 (rest +ℤ right) (word *ℤ by))
    ∙ ap (λ x. wrapped (x +ℤ word *ℤ by)) (right_term rest right other (word *ℤ more) there)
    ∙ int_wrap-add_left w32 ((rest +ℤ other) +ℤ word *ℤ more) (word *ℤ by)
    ∙ ap (λ x. wrapped x) (order (rest +ℤ other) (word *ℤ more) (word *ℤ by))
    ∙ ap (λ x. wrapped ((rest +ℤ other) +ℤ x)) (sym (mul-add word by more))
    ∙ sym (term_wrapped (rest +ℤ other) word (by +ℤ more))
  where
    order : (a b c : ℤ) → (a +ℤ b) +ℤ c ≡ a +ℤ (c +ℤ b)
    order a b c = omega (arith, ints)

-- a term before a sum
pub term_before : (left right sum term whole : ℤ) → sum ≡ wrapped (left +ℤ right) → whole ≡ wrapped (sum +ℤ term)
    → whole ≡ wrapped ((left +ℤ right) +ℤ term)
term_before left right sum term whole is there =
    there ∙ ap (λ x. wrapped (x +ℤ term)) is ∙ int_wrap-add_left w32 (left +ℤ right) term

-- a term before a multiple
pub multiple_before : (base rest word by more multiple whole : ℤ) → base ≡ wrapped (rest +ℤ word *ℤ by)
    → multiple ≡ wrapped (rest *ℤ more) → whole ≡ wrapped (multiple +ℤ word *ℤ wrapped (by *ℤ more))
    → whole ≡ wrapped (base *ℤ more)
multiple_before base rest word by more multiple whole is there here =
    here ∙ term_wrapped multiple word (by *ℤ more) ∙ ap (λ x. wrapped (x +ℤ word *ℤ (by *ℤ more))) there
    ∙ int_wrap-add_left w32 (rest *ℤ more) (word *ℤ (by *ℤ more))
    ∙ ap (λ x. wrapped (rest *ℤ more +ℤ x)) (sym (mul-assoc word by more))
    ∙ ap (λ x. wrapped x) (sym (add-mul rest (word *ℤ by) more))
    ∙ sym (int_wrap-mul_left w32 (rest +ℤ word *ℤ by) more) ∙ ap (λ x. wrapped (x *ℤ more)) (sym is)
