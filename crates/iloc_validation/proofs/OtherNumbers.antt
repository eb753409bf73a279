-- What operations read, by other numbers.
use Rattle.iloc_validation.proofs.Common.{◌≡◌, ℕ, List, ◌∷◌, Option, option_map, refl, Reg, sources_of, by_numbers}

pub by_numbers_of : (f : ℕ → ℕ) (g : Reg → Option ℕ) (rs : List Reg)
    → by_numbers f (sources_of g rs) ≡ sources_of (λ r. option_map f (g r)) rs
by_numbers_of f g (r ∷ s ∷ rest) = refl
by_numbers_of f g _ = refl
