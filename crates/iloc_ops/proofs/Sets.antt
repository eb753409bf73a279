-- Elements that are set, from the last to the first, and the elements of eight.
use Rattle.std.proofs.Common.{◌≡◌, ◌+◌, ◌≤◌, ℕ, zero, suc, List, [], ◌∷◌, ◌++◌, ◌∙◌, drop, length, set, get_or, refl, subst, arith, length-set}
use Rattle.std.proofs.lemmas.Grind.{drop-set_at}
use Rattle.std.proofs.lemmas.List.{drop-drop, drop-append-le, drop_more, drop_all}

-- the list where, from `at` and k on, n elements of the other one from k on are set
abbrev sets : List ℕ → ℕ → List ℕ → ℕ → ℕ → List ℕ
sets xs at bs k zero = xs
sets xs at bs k (suc n) = set (sets xs at bs (k + 1) n) (at + k) (get_or bs k 0)

length-sets : (xs : List ℕ) (at : ℕ) (bs : List ℕ) (k n : ℕ) → length (sets xs at bs k n) ≡ length xs
length-sets xs at bs k zero = refl
length-sets xs at bs k (suc n) = length-set (sets xs at bs (k + 1) n) (at + k) (get_or bs k 0) ∙ length-sets xs at bs (k + 1) n

-- what is set is what the list has then
drop-sets : (xs : List ℕ) (at : ℕ) (bs : List ℕ) (k n : ℕ) → k + n ≡ length bs → at + length bs ≤ length xs
    → drop (at + k) (sets xs at bs k n) ≡ drop k bs ++ drop (at + length bs) xs
drop-sets xs at bs k zero all h =
    let e : at + k ≡ at + length bs = omega arith in
    rw (e, drop_all k bs (omega arith))
drop-sets xs at bs k (suc n) all h =
    let ys = sets xs at bs (k + 1) n in
    let l = length-sets xs at bs (k + 1) n in
    let e : at + k + 1 ≡ at + (k + 1) = omega arith in
    rw (
      drop-set_at ys (at + k) (at + k) (get_or bs k 0) refl (omega arith),
      e,
      drop-sets xs at bs (k + 1) n (omega arith) h,
      drop_more bs k 0 (omega arith),
    )

-- where all elements of a list are set before a place, those from one of them on are what the list has then
pub last_of_sets : (bs xs : List ℕ) (at end skipped n : ℕ) → at + length bs ≡ end → end ≤ length xs → 1 + n ≡ length bs → skipped ≤ length bs
    → drop (at + skipped) (set (sets xs at bs 1 n) at (get_or bs 0 0)) ≡ drop skipped bs ++ drop end xs
last_of_sets bs xs at end skipped n e h all few =
    let first : at + 0 ≡ at = omega arith in
    let s = drop-sets xs at bs 0 (suc n) (omega arith) (omega arith) in
    rw (← e, ← drop-drop skipped at _, subst (λ i. drop i (set (sets xs at bs 1 n) i (get_or bs 0 0)) ≡ bs ++ drop (at + length bs) xs) first s)
    (drop-append-le skipped bs _ few)

-- the elements of eight
pub eight : (xs rest : List ℕ) → length xs ≡ 8 → get_or xs 0 0 ∷ get_or xs 1 0 ∷ get_or xs 2 0 ∷ get_or xs 3 0 ∷ get_or xs 4 0
    ∷ get_or xs 5 0 ∷ get_or xs 6 0 ∷ get_or xs 7 0 ∷ rest ≡ xs ++ rest
eight [] rest k = absurd (omega (arith, k))
eight (a ∷ []) rest k = absurd (omega (arith, k))
eight (a ∷ b ∷ []) rest k = absurd (omega (arith, k))
eight (a ∷ b ∷ c ∷ []) rest k = absurd (omega (arith, k))
eight (a ∷ b ∷ c ∷ d ∷ []) rest k = absurd (omega (arith, k))
eight (a ∷ b ∷ c ∷ d ∷ e ∷ []) rest k = absurd (omega (arith, k))
eight (a ∷ b ∷ c ∷ d ∷ e ∷ f ∷ []) rest k = absurd (omega (arith, k))
eight (a ∷ b ∷ c ∷ d ∷ e ∷ f ∷ g ∷ []) rest k = absurd (omega (arith, k))
eight (a ∷ b ∷ c ∷ d ∷ e ∷ f ∷ g ∷ h ∷ []) rest k = refl
eight (a ∷ b ∷ c ∷ d ∷ e ∷ f ∷ g ∷ h ∷ i ∷ more) rest k = absurd (omega (arith, k))
