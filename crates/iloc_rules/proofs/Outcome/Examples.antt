-- An example: what is dropped, and that dropping all isn't sound.
use Rattle.iloc_rules.proofs.Common.{◌≡◌, ℕ, true, false, List, [], ◌∷◌, refl, arith, false≢true, Op, AddI, Load, LoadI, Store, Reg, unless_apart, Counts, IsSound}
use Rattle.std.specs.Int.{int_wrap}

r : ℕ → Reg
r n = record { 0 = n }

-- loadI 4 => r0; store r0 => r0; addI r0, 4 => r1; load r1 => r2; load r0 => r3; store r3 => r2; addI r2, 4 => r4; load r4 => r5
example : List Op
example =
    LoadI 4 (r 0) ∷ Store (r 0) (r 0) ∷ AddI (r 0) 4 (r 1) ∷ Load (r 1) (r 2) ∷ Load (r 0) (r 3) ∷ Store (r 3) (r 2)
    ∷ AddI (r 2) 4 (r 4) ∷ Load (r 4) (r 5) ∷ []

-- by constants
one_dropped : unless_apart example 1 3 ≡ false
unfolding r example int_wrap
one_dropped = refl

one_kept : unless_apart example 1 4 ≡ true
unfolding r example int_wrap
one_kept = refl

-- by a base out of memory
other_dropped : unless_apart example 5 7 ≡ false
unfolding r example int_wrap
other_dropped = refl

other_kept : unless_apart example 1 7 ≡ true
unfolding r example int_wrap
other_kept = refl

none_count : Counts
none_count i j = false

none_is_unsound : IsSound none_count example → ⊥
unfolding r example int_wrap none_count
none_is_unsound sound =
    false≢true ((sound []).meet 1 4 4 (omega arith) (omega arith) (record { first = refl; second = refl; store = refl }))
