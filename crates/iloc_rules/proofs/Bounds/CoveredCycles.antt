-- Intervals that cover all cycles below n have n cycles at least; for `laws::latencies_bound_the_cycles`.
use Rattle.iloc_rules.proofs.Common.{◌≡◌, ℕ, zero, suc, ◌+◌, ◌-◌, ◌<◌, ◌≤◌, min, List, [], ◌∷◌, map, length, slice_index_or, sum_by, sym, refl, ap, ◌∙◌, inl, inr, arith, fill_by_all, sum_by-cons, sum_by-le-sum_by, range_with_len, In}
use Rattle.std.proofs.lemmas.List.Folds.{fold-map}
use Rattle.iloc_rules.proofs.Basics.Members.{in_range_from}

-- a sum grows where one of its terms does and none falls
sum_grows : {X : Type 0} → (f g : X → ℕ) (xs : List X) (x : X) → In xs x → f x + 1 ≤ g x → ((y : X) → f y ≤ g y)
    → sum_by f xs + 1 ≤ sum_by g xs
sum_grows f g [] x there more each = absurd there
sum_grows f g (y ∷ ys) x (inl here) more each = grind (arith, sum_by-cons, sum_by-le-sum_by)
sum_grows f g (y ∷ ys) x (inr there) more each = grind (arith, sum_by-cons, sum_grows f g ys x there more each)

pub sum_by-map : {X Y : Type 0} → (f : Y → ℕ) (h : X → Y) (xs : List X) → sum_by f (map h xs) ≡ sum_by (λ x. f (h x)) xs
sum_by-map f h xs = fold-map (λ a y. a + f y) h 0 xs

-- a sum by numbers is the sum over the list
pub sum_by_numbers : {X : Type 0} → (f : X → ℕ) (xs : List X) (d : X)
    → sum_by (λ k. f (slice_index_or xs k d)) (range_with_len 0 (length xs)) ≡ sum_by f xs
sum_by_numbers f xs d =
    sym (sum_by-map f (λ k. slice_index_or xs k d) (range_with_len 0 (length xs)))
    ∙ ap (sum_by f) (sym (fill_by_all (λ k. slice_index_or xs k d) xs (length xs) d refl (λ k below. refl)))

-- number h covers cycle c: it starts at `start h` and takes `size h` cycles
pub record Covered (start size : ℕ → ℕ) (n c : ℕ) : Type 0 where
  pub by : ℕ
  pub within : by < n
  pub begun : start by ≤ c
  pub goes_on : c < start by + size by

module _ (start size : ℕ → ℕ) (n : ℕ) where
  -- how many cycles below m a number covers
  part : ℕ → ℕ → ℕ
  part m h = min (m - start h) (size h)

  part_grows : (m h : ℕ) → part m h ≤ part (suc m) h
  unfolding part
  part_grows m h = omega arith

  part_more : (m h : ℕ) → start h ≤ m → m < start h + size h → part m h + 1 ≤ part (suc m) h
  unfolding part
  part_more m h begun goes_on = omega arith

  part_size : (m h : ℕ) → part m h ≤ size h
  unfolding part
  part_size m h = omega arith

  covered_parts : (m : ℕ) → ((c : ℕ) → c < m → Covered start size n c) → m ≤ sum_by (part m) (range_with_len 0 n)
  covered_parts zero each = omega arith
  covered_parts (suc m) each =
      let before : m ≤ sum_by (part m) (range_with_len 0 n) = covered_parts m (λ c below. each c (omega arith)) in
      let here = each m (omega arith) in
      let more : sum_by (part m) (range_with_len 0 n) + 1 ≤ sum_by (part (suc m)) (range_with_len 0 n) =
      sum_grows (part m) (part (suc m)) (range_with_len 0 n) here.by
      (in_range_from 0 n here.by (omega arith) (omega arith)) (part_more m here.by here.begun here.goes_on)
      (part_grows m) in
      omega arith

  pub covered_sum : (m : ℕ) → ((c : ℕ) → c < m → Covered start size n c) → m ≤ sum_by size (range_with_len 0 n)
  covered_sum m each =
      grind (arith, covered_parts m each, part m, part_size m, sum_by-le-sum_by (part m) size (range_with_len 0 n) (part_size m))
