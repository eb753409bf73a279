-- Sorted tails need the greatest of what each needs with those behind it; for `needed`.
use Rattle.iloc_bound.proofs.Common.{◌≡◌, ℕ, ◌+◌, ◌-◌, ◌/◌, ◌<◌, ◌≤◌, max, false, cond, List, [], ◌∷◌, map, length, get_or, drop, nat_le, IsPermutation, sym, refl, ap, ◌∙◌, inl, inr, arith, length-drop, get_or-drop, nat_tests, drop_more, get_or_default, Contains-permutation, IsPermutation-sym, contains_from, from_map, in_from, in_map, count_by-cons, count_from, cycles_from, needed, In}
use Rattle.std.specs.List.Sorted.{IsNonDecreasing}
use Rattle.iloc_sched.proofs.Basics.Cases.{by_lt}
use Rattle.iloc_rules.proofs.Basics.Maxima.{fold_max_each, fold_max_reached}
use Rattle.iloc_bound.proofs.Counting.{count-permutation, div-mono, is_at_least}

module _ (first width : ℕ) where
  value_most : (xs : List ℕ) (b : ℕ) → In xs b → cycles_from first width xs b ≤ needed first width xs
  value_most xs b there = fold_max_each 0 (map (cycles_from first width xs) xs) (cycles_from first width xs b)
      (in_map (cycles_from first width xs) xs b there)

  -- what each tail asks for is at most a limit, and so is what all need
  all_most : (xs : List ℕ) (limit : ℕ) → ((b : ℕ) → In xs b → cycles_from first width xs b ≤ limit)
      → needed first width xs ≤ limit
  all_most xs limit each = grind (arith, fold_max_reached 0 (map (cycles_from first width xs) xs), from_map (cycles_from first width xs) xs)

  moved_most : (xs ys : List ℕ) → IsPermutation xs ys → needed first width xs ≤ needed first width ys
  moved_most xs ys moved = all_most xs (needed first width ys) (λ b there.
      let same : count_from ys b ≡ count_from xs b = count-permutation (λ tail. nat_le b tail) xs ys moved in
      let value = ap (λ n. first + (n - 1) / width + b) same in
      let most = value_most ys b (in_from ys b (Contains-permutation xs ys b moved (contains_from xs b there))) in
      omega arith)

  -- in another order they need as much
  pub needed_moved : (xs ys : List ℕ) → IsPermutation xs ys → needed first width ys ≡ needed first width xs
  needed_moved xs ys moved = omega (arith, moved_most xs ys moved, moved_most ys xs (IsPermutation-sym xs ys moved))

  not_at_least : (q p : ℕ) → p < q → nat_le q p ≡ false
  not_at_least q p low = grind (arith, nat_tests)

  count_all : (x : ℕ) (xs : List ℕ) → ((y : ℕ) → In xs y → x ≤ y) → count_from xs x ≡ length xs
  count_all x [] each = refl
  count_all x (y ∷ xs) each =
      let here = count_by-cons (λ tail. nat_le x tail) y xs in
      let one = ap (λ b. cond {A = ℕ} b 1 0) (is_at_least x y (each y (inl refl))) in
      let rest = count_all x xs (λ z there. each z (inr there)) in
      omega arith

  -- one more, which is no longer
  needed_more : 0 < width → (x : ℕ) (xs : List ℕ) → ((y : ℕ) → In xs y → x ≤ y)
      → needed first width (x ∷ xs) ≡ max (needed first width xs) (first + length xs / width + x)
  needed_more some x xs each =
      let here : (b : ℕ) → count_from (x ∷ xs) b ≡ cond {A = ℕ} (nat_le b x) 1 0 + count_from xs b =
      (λ b. count_by-cons (λ tail. nat_le b tail) x xs) in
      let whole : count_from (x ∷ xs) x - 1 ≡ length xs =
      omega (arith, here x, ap (λ b. cond {A = ℕ} b 1 0) (is_at_least x x (omega arith)), count_all x xs each) in
      let own : cycles_from first width (x ∷ xs) x ≡ first + length xs / width + x =
      ap (λ n. first + n / width + x) whole in
      let low : needed first width (x ∷ xs) ≤ max (needed first width xs) (first + length xs / width + x) =
      all_most (x ∷ xs) (max (needed first width xs) (first + length xs / width + x)) (λ b there. elim there [
        | inl same ↦ omega (arith, own, ap (cycles_from first width (x ∷ xs)) same)
        | inr behind ↦ by_lt x b
            (λ longer.
            let fewer : count_from (x ∷ xs) b ≡ count_from xs b =
            omega (arith, here b, ap (λ l. cond {A = ℕ} l 1 0) (not_at_least b x longer)) in
            let value : cycles_from first width (x ∷ xs) b ≡ cycles_from first width xs b =
            ap (λ n. first + (n - 1) / width + b) fewer in
            omega (arith, value_most xs b behind))
            (λ up.
            let same : x ≡ b = omega (arith, each b behind) in
            omega (arith, own, ap (cycles_from first width (x ∷ xs)) same))
      ]) in
      let high : needed first width xs ≤ needed first width (x ∷ xs) =
      all_most xs (needed first width (x ∷ xs)) (λ b there.
      let more = div-mono width (count_from xs b - 1) (count_from (x ∷ xs) b - 1) some (omega (arith, here b)) in
      omega (arith, value_most (x ∷ xs) b (inr there))) in
      omega (arith, value_most (x ∷ xs) x (inl refl))

  -- from place k on
  pub needed_from : 0 < width → (xs : List ℕ) (k : ℕ) → IsNonDecreasing xs → k < length xs
      → needed first width (drop k xs)
      ≡ max (needed first width (drop (k + 1) xs)) (first + (length xs - 1 - k) / width + get_or xs k 0)
  needed_from some xs k rises within =
      let rest : List ℕ = drop (k + 1) xs in
      let size : length rest ≡ length xs - 1 - k = omega (arith, length-drop (k + 1) xs) in
      ap (needed first width) (drop_more xs k 0 within)
      ∙ needed_more some (get_or xs k 0) rest (λ y there.
      let found = contains_from rest y there in
      let same = sym (get_or-drop (k + 1) xs found.0 0) ∙ get_or_default rest found.0 0 y found.1 ∙ found.2 in
      omega (arith, rises k (k + 1 + found.0) 0 (omega arith) (omega (arith, found.1))))
      ∙ ap (λ n. max (needed first width rest) (first + n / width + get_or xs k 0)) size
