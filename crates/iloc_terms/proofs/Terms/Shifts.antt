-- Shifts.
use Rattle.iloc_terms.proofs.Common.{◌≡◌, ℕ, ◌+◌, ◌-◌, ◌*◌, ◌/◌, ◌%◌, ◌^◌, ◌≤◌, min, ℤ, pos, negsuc, ◌*ℤ◌, FitsSigned, sym, refl, ap, ◌∙◌, inl, inr, arith, w32, rules, cases_lt, int_wrap-mul_left, int_wrap-mul_right, int_wrap_fits, ints, of_z-to_z, to_z-of_z, cast_signed, cast_unsigned, int_shl, int_shr, shift_of, wrapped, high_bits}
use Rattle.std.specs.Int.{int_wrap}
use Rattle.std.proofs.Math.IntN.{*ℤ_comm}
use Rattle.std.proofs.Math.Nat.{div-div-eq-div-mul, div-eq_of_lt, zero-div, div-one, mod-eq_of_lt}
use Rattle.std.proofs.lemmas.Nat.{pow-add}
use Rattle.iloc_terms.proofs.Terms.Products.{times_one}

-- one to the right after the other
shr_shr : (z : ℤ) (i j : ℕ) → int_shr (int_shr z i) j ≡ int_shr z (i + j)
shr_shr (pos a) i j = ap pos (div-div-eq-div-mul a (2 ^ i) (2 ^ j) ∙ ap (λ k. a / k) (sym (pow-add 2 i j)))
shr_shr (negsuc a) i j = ap negsuc (div-div-eq-div-mul a (2 ^ i) (2 ^ j) ∙ ap (λ k. a / k) (sym (pow-add 2 i j)))

-- by 31 bits the sign alone is left
shr_sign : (z : ℤ) (k : ℕ) → FitsSigned w32 z → int_shr (int_shr z 31) k ≡ int_shr z 31
shr_sign (pos a) k fits =
    let none : a / 2 ^ 31 ≡ 0 = div-eq_of_lt {n = a} {m = 2 ^ 31} (omega (arith, ints)) in
    ap (λ x. pos (x / 2 ^ k)) none ∙ ap pos (zero-div (2 ^ k)) ∙ sym (ap pos none)
shr_sign (negsuc a) k fits =
    let none : a / 2 ^ 31 ≡ 0 = div-eq_of_lt {n = a} {m = 2 ^ 31} (omega (arith, ints)) in
    ap (λ x. negsuc (x / 2 ^ k)) none ∙ ap negsuc (zero-div (2 ^ k)) ∙ sym (ap negsuc none)

-- two shifts to the right are one, by 31 bits at most
pub shr_both : (z : ℤ) (i j : ℕ) → FitsSigned w32 z → int_shr z (min (i + j) 31) ≡ int_shr (int_shr z i) j
shr_both z i j fits = elim (cases_lt 31 (i + j)) [
  | inl far ↦
      let least : min (i + j) 31 ≡ 31 = omega arith in
      let whole : 31 + (i + j - 31) ≡ i + j = omega arith in
      ap (λ k. int_shr z k) least ∙ sym (shr_sign z (i + j - 31) fits) ∙ shr_shr z 31 (i + j - 31)
      ∙ ap (λ k. int_shr z k) whole ∙ sym (shr_shr z i j)
  | inr near ↦
      let least : min (i + j) 31 ≡ i + j = omega arith in
      ap (λ k. int_shr z k) least ∙ sym (shr_shr z i j)
]

-- 0 and -1 stay what they are
pub shr_zero : (k : ℕ) → int_shr (pos 0) k ≡ pos 0
shr_zero k = ap pos (zero-div (2 ^ k))

pub shr_ones : (k : ℕ) → int_shr (negsuc 0) k ≡ negsuc 0
shr_ones k = ap negsuc (zero-div (2 ^ k))

-- by 0 bits
pub shr_none : (z : ℤ) → int_shr z 0 ≡ z
shr_none (pos a) = ap pos (div-one a)
shr_none (negsuc a) = ap negsuc (div-one a)

-- what is left of a number in 32 bits
kept : (m : ℕ) → cast_signed w32 (m % 2 ^ 32) ≡ wrapped (pos m)
unfolding int_wrap
kept m = refl

unsigned_wraps : (z : ℤ) → FitsSigned w32 z → wrapped (pos (cast_unsigned w32 z)) ≡ z
unsigned_wraps z fits = sym (kept (cast_unsigned w32 z))
    ∙ ap (λ x. cast_signed w32 x) (mod-eq_of_lt {n = cast_unsigned w32 z} {m = 2 ^ 32} (omega (arith, ints)))
    ∙ to_z-of_z w32 z fits

times_pos : (a b : ℕ) → pos (a * b) ≡ pos a *ℤ pos b
times_pos a b = grind arith

by_power : (z : ℤ) (k : ℕ) → FitsSigned w32 z → int_shl w32 z k ≡ wrapped (z *ℤ pos (2 ^ k))
by_power z k fits = kept (cast_unsigned w32 z * 2 ^ k) ∙ ap (λ x. wrapped x) (times_pos (cast_unsigned w32 z) (2 ^ k))
    ∙ sym (int_wrap-mul_left w32 (pos (cast_unsigned w32 z)) (pos (2 ^ k)))
    ∙ ap (λ x. wrapped (x *ℤ pos (2 ^ k))) (unsigned_wraps z fits)

one_fits : FitsSigned w32 (pos 1)
one_fits = search rules

one_by_power : (k : ℕ) → int_shl w32 (pos 1) k ≡ wrapped (pos (2 ^ k))
one_by_power k = by_power (pos 1) k one_fits
    ∙ ap (λ x. wrapped x) (*ℤ_comm (pos 1) (pos (2 ^ k)) ∙ times_one (pos (2 ^ k)))

-- a shift to the left is a product with 1 shifted so
pub shifted_product : (z : ℤ) (k : ℕ) (power : ℤ) → FitsSigned w32 z → power ≡ int_shl w32 (pos 1) k
    → wrapped (z *ℤ power) ≡ int_shl w32 z k
shifted_product z k power fits is = ap (λ x. wrapped (z *ℤ x)) (is ∙ one_by_power k)
    ∙ int_wrap-mul_right w32 z (pos (2 ^ k)) ∙ sym (by_power z k fits)

-- times 2^27 the five lowest bits are the highest
pub highest : (z : ℤ) → FitsSigned w32 z → high_bits (wrapped (z *ℤ pos 134217728)) ≡ shift_of z
highest z fits = ap (λ x. high_bits x) (sym (by_power z 27 fits))
    ∙ ap (λ x. x / 134217728) (of_z-to_z w32 ((cast_unsigned w32 z * 134217728) % 2 ^ 32) (omega arith)) ∙ omega arith

-- what a known word has highest
pub bits_highest : (bits : ℕ) → bits ≤ 31 → high_bits (cast_signed w32 (bits * 134217728)) ≡ bits
bits_highest bits few =
    ap (λ x. x / 134217728) (of_z-to_z w32 (bits * 134217728) (omega arith)) ∙ omega arith

-- what a word below 32 shifts by
pub bits_of : (bits : ℕ) → bits ≤ 31 → shift_of (cast_signed w32 bits) ≡ bits
bits_of bits few = ap (λ x. x % 32) (of_z-to_z w32 bits (omega arith)) ∙ mod-eq_of_lt {n = bits} {m = 32} (omega arith)

-- a word that has none but its five highest bits is as often 2^27 as they say
pub back : (z : ℤ) → FitsSigned w32 z → wrapped (z *ℤ pos 32) ≡ pos 0 → z ≡ wrapped (int_shr z 27 *ℤ pos 134217728)
back z fits none = sym (int_wrap_fits w32 z fits) ∙ ap (λ x. wrapped x) (sym (whole z fits lowest))
  where
    lowest : (cast_unsigned w32 z * 32) % 2 ^ 32 ≡ 0
    lowest = sym (of_z-to_z w32 ((cast_unsigned w32 z * 32) % 2 ^ 32) (omega arith))
        ∙ ap (λ x. cast_unsigned w32 x) (by_power z 5 fits ∙ none)

    whole : (z : ℤ) → FitsSigned w32 z → (cast_unsigned w32 z * 32) % 2 ^ 32 ≡ 0
        → int_shr z 27 *ℤ pos 134217728 ≡ z
    whole (pos a) fits low = omega (arith, ints)
    whole (negsuc a) fits low = omega (arith, ints)
