-- Sums modulo 2^32.
use Rattle.iloc_terms.proofs.Common.{◌≡◌, ℤ, ◌+ℤ◌, ◌-ℤ◌, FitsSigned, sym, ap, ◌∙◌, arith, w32, SFits-int_wrap, int_wrap-add_left, int_wrap-add_right, int_wrap_fits, ints, to_z-of_z, cast_signed, cast_unsigned, wrapped, key_of}

-- what is above a base by c has the key c
pub key_of_sum : (base c a : ℤ) → FitsSigned w32 c → a ≡ wrapped (base +ℤ c) → key_of base a ≡ cast_unsigned w32 c
key_of_sum base c a fits is = grind (arith, int_wrap-add_left, int_wrap_fits, ints, w32)

-- nothing else has that key
pub key_of_other : (base c a z : ℤ) → FitsSigned w32 c → FitsSigned w32 z → a ≡ wrapped (base +ℤ c)
    → key_of base z ≡ cast_unsigned w32 c → z ≡ a
key_of_other base c a z fits small is same =
    let above : wrapped (z -ℤ base) ≡ c =
    sym (to_z-of_z w32 (wrapped (z -ℤ base)) (SFits-int_wrap w32 (z -ℤ base)))
    ∙ ap (λ k. cast_signed w32 k) same ∙ to_z-of_z w32 c fits in
    let back : base +ℤ (z -ℤ base) ≡ z = omega (arith, ints) in
    sym (int_wrap_fits w32 z small) ∙ ap (λ x. wrapped x) (sym back)
    ∙ sym (int_wrap-add_right w32 base (z -ℤ base)) ∙ ap (λ x. wrapped (base +ℤ x)) above ∙ sym is

-- the sum of two sums, part by part
pub sum_parts : (left right base other c d : ℤ) → left ≡ wrapped (base +ℤ c) → right ≡ wrapped (other +ℤ d)
    → wrapped (wrapped (base +ℤ other) +ℤ wrapped (c +ℤ d)) ≡ wrapped (left +ℤ right)
sum_parts left right base other c d is there =
    let order : (base +ℤ other) +ℤ (c +ℤ d) ≡ (base +ℤ c) +ℤ (other +ℤ d) = omega (arith, ints) in
    int_wrap-add_left w32 (base +ℤ other) (wrapped (c +ℤ d)) ∙ int_wrap-add_right w32 (base +ℤ other) (c +ℤ d)
    ∙ ap (λ x. wrapped x) order ∙ sym (int_wrap-add_left w32 (base +ℤ c) (other +ℤ d))
    ∙ sym (int_wrap-add_right w32 (wrapped (base +ℤ c)) (other +ℤ d))
    ∙ ap (λ x. wrapped (x +ℤ wrapped (other +ℤ d))) (sym is) ∙ ap (λ x. wrapped (left +ℤ x)) (sym there)

-- one more constant
pub raised_parts : (word base c by : ℤ) → word ≡ wrapped (base +ℤ c)
    → wrapped (base +ℤ wrapped (c +ℤ by)) ≡ wrapped (word +ℤ by)
raised_parts word base c by is =
    let order : base +ℤ (c +ℤ by) ≡ (base +ℤ c) +ℤ by = omega (arith, ints) in
    int_wrap-add_right w32 base (c +ℤ by) ∙ ap (λ x. wrapped x) order ∙ sym (int_wrap-add_left w32 (base +ℤ c) by)
    ∙ ap (λ x. wrapped (x +ℤ by)) (sym is)

-- an operation on what is stored, itself stored
pub stored : (f : ℤ → ℤ → ℤ) (a b r : ℤ) → FitsSigned w32 a → FitsSigned w32 b → FitsSigned w32 r
    → r ≡ f (cast_signed w32 (cast_unsigned w32 a)) (cast_signed w32 (cast_unsigned w32 b))
    → cast_signed w32 (cast_unsigned w32 r) ≡ f a b
stored f a b r first second fits is = grind (arith, to_z-of_z, w32)
