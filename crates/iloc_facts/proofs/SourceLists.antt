-- What an operation reads, as a list and as the code has it.
use Rattle.iloc_facts.proofs.Common.{◌≡◌, ℕ, ◌≤◌, List, [], ◌∷◌, map, length, Option, refl, ap, arith, used, Op, Nop, Reg, sources_of}

pub few_used : (op : Op) → length (used op) ≤ 2
few_used Nop = omega arith
few_used _ = omega arith

pub sources_same : (f g : Reg → Option ℕ) (rs : List Reg) → ((r : Reg) → f r ≡ g r) → sources_of f rs ≡ sources_of g rs
sources_same f g rs same = grind arith

pub lists_same : (f g : Reg → Option ℕ) (rs ss : List Reg) → length rs ≤ 2 → length ss ≤ 2
    → sources_of f rs ≡ sources_of g ss → map f rs ≡ map g ss
lists_same f g [] [] few short same = refl
lists_same f g [] (s ∷ []) few short same = absurd cc
lists_same f g (r ∷ []) (s ∷ []) few short same = let one : f r ≡ g s = cc in ap (λ x. x ∷ []) one
lists_same f g (r ∷ q ∷ []) (s ∷ t ∷ []) few short same = grind arith
lists_same f g (r ∷ q ∷ []) (s ∷ t ∷ u ∷ rest) few short same = absurd (omega arith)
lists_same f g (r ∷ q ∷ p ∷ rest) ss few short same = absurd (omega arith)
lists_same f g _ _ few short same = absurd cc

pub sources_from_lists : (f g : Reg → Option ℕ) (rs ss : List Reg) → map f rs ≡ map g ss → sources_of f rs ≡ sources_of g ss
sources_from_lists f g rs ss same = grind arith
