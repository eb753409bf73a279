-- A proof by the two cases of a test.
use Rattle.std.proofs.Common.{◌≡◌, Bool, true, false, refl}

pub by_bool : {P : Type 0} → (b : Bool) → (b ≡ true → P) → (b ≡ false → P) → P
by_bool {P} b holds fails =
    elim b as (λ v. (v ≡ true → P) → (v ≡ false → P) → P) [ true ↦ λ f g. f refl | false ↦ λ f g. g refl ] holds fails
