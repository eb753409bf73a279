-- Values that agree along a pairing have one sum.
use Rattle.iloc_validation.proofs.Common.{◌≡◌, ℕ, suc, ◌+◌, ◌<◌, ◌≤◌, ◌≢◌, List, [], ◌∷◌, map, length, get_or, slice_set, sum_by, sym, refl, ap, ◌∙◌, subst, arith, length-set, get_or-set_other, get_or-map, length-map, sum_by-cons, sum_by-set, range_with_len}
use Rattle.std.proofs.lemmas.List.FromFn.{length-map-range_with_len, get_or-map-range_with_len}

abbrev itself : ℕ → ℕ
itself n = n

-- where each number is led to one that is equal, and no two to the same, there is no more to add up
injected : (xs ys : List ℕ) (to : ℕ → ℕ)
    → ((i : ℕ) → i < length xs → (to i < length ys) × (get_or ys (to i) 0 ≡ get_or xs i 0))
    → ((i j : ℕ) → i < length xs → j < length xs → to i ≡ to j → i ≡ j) → sum_by itself xs ≤ sum_by itself ys
injected [] ys to each apart = omega arith
injected (x ∷ xs) ys to each apart =
    let cons : sum_by itself (x ∷ xs) ≡ x + sum_by itself xs = sum_by-cons itself x xs in
    let here = each 0 (omega arith) in
    let one : get_or ys (to 0) 0 ≡ x = here.1 in
    let gone : List ℕ = slice_set ys (to 0) 0 in
    let set : sum_by itself gone + get_or ys (to 0) 0 ≡ sum_by itself ys + 0 = sum_by-set itself ys (to 0) 0 0 here.0 in
    let rest : sum_by itself xs ≤ sum_by itself gone =
    injected xs gone (λ i. to (suc i))
    (λ i within.
    let there = each (suc i) (omega arith) in
    let other : to (suc i) ≢ to 0 = λ same. absurd (let i-is : suc i ≡ 0 = apart (suc i) 0 (omega arith) (omega arith) same in omega arith) in
    let size : length gone ≡ length ys = length-set ys (to 0) 0 in
    (subst (λ n. to (suc i) < n) (sym size) there.0, get_or-set_other ys (to 0) (to (suc i)) 0 0 other ∙ there.1))
    (λ i j here there same. let next : suc i ≡ suc j = apart (suc i) (suc j) (omega arith) (omega arith) same in omega arith) in
    omega (arith, cons, one, set, rest)

mapped : (h : ℕ → ℕ) (xs : List ℕ) → sum_by itself (map h xs) ≡ sum_by h xs
mapped h [] = refl
mapped h (x ∷ xs) = sum_by-cons itself (h x) (map h xs) ∙ ap (λ k. h x + k) (mapped h xs) ∙ sym (sum_by-cons h x xs)

module _ (n m : ℕ) (to from : ℕ → ℕ) (there : (p : ℕ) → p < m → to p < n) (back : (p : ℕ) → p < m → from (to p) ≡ p)
    (there_too : (i : ℕ) → i < n → from i < m) (back_too : (i : ℕ) → i < n → to (from i) ≡ i) where
  -- of two lists, along a pairing of their places
  pub lists_paired : (xs ys : List ℕ) → length xs ≡ n → length ys ≡ m
      → ((p : ℕ) → p < m → get_or ys p 0 ≡ get_or xs (to p) 0) → sum_by itself xs ≡ sum_by itself ys
  lists_paired xs ys size size_too same =
      let few : sum_by itself xs ≤ sum_by itself ys =
      injected xs ys from
      (λ i within.
      let inside : i < n = omega arith in (
        subst (λ k. from i < k) (sym size_too) (there_too i inside),
        same (from i) (there_too i inside) ∙ ap (λ k. get_or xs k 0) (back_too i inside),
      ))
      (λ i j here further equal. sym (back_too i (omega arith)) ∙ ap to equal ∙ back_too j (omega arith)) in
      let few_too : sum_by itself ys ≤ sum_by itself xs =
      injected ys xs to
      (λ p within.
      let inside : p < m = omega arith in
      (subst (λ k. to p < k) (sym size) (there p inside), sym (same p inside)))
      (λ i j here further equal. sym (back i (omega arith)) ∙ ap from equal ∙ back j (omega arith)) in
      omega arith

  -- of values by place
  pub ranges_paired : (f g : ℕ → ℕ) → ((p : ℕ) → p < m → g p ≡ f (to p))
      → sum_by f (range_with_len 0 n) ≡ sum_by g (range_with_len 0 m)
  ranges_paired f g same =
      let one : sum_by itself (map f (range_with_len 0 n)) ≡ sum_by itself (map g (range_with_len 0 m)) =
      lists_paired (map f (range_with_len 0 n)) (map g (range_with_len 0 m)) (length-map-range_with_len f 0 n)
      (length-map-range_with_len g 0 m)
      (λ p within.
      get_or-map-range_with_len g 0 m p p 0 within (omega arith)
      ∙ same p within
      ∙ sym (get_or-map-range_with_len f 0 n (to p) (to p) 0 (there p within) (omega arith))) in
      sym (mapped f (range_with_len 0 n)) ∙ one ∙ mapped g (range_with_len 0 m)

  -- of what two lists have at those places
  pub values_paired : (f : ℕ → ℕ) (xs ys : List ℕ) → length xs ≡ n → length ys ≡ m
      → ((p : ℕ) → p < m → get_or ys p 0 ≡ get_or xs (to p) 0) → sum_by f xs ≡ sum_by f ys
  values_paired f xs ys size size_too same =
      let one : sum_by itself (map f xs) ≡ sum_by itself (map f ys) =
      lists_paired (map f xs) (map f ys) (length-map xs f ∙ size) (length-map ys f ∙ size_too)
      (λ p within.
      get_or-map f ys p 0 0 (omega arith)
      ∙ ap f (same p within)
      ∙ sym (get_or-map f xs (to p) 0 0 (let inside : to p < n = there p within in omega arith))) in
      sym (mapped f xs) ∙ one ∙ mapped f ys
