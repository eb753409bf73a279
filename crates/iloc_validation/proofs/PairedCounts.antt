-- Where operations are paired by label, both sides have as many of each label; so where they haven't, none are paired.
use Rattle.iloc_validation.proofs.Common.{◌≡◌, ℕ, suc, ◌+◌, ◌<◌, ◌≤◌, Bool, true, false, cond, ◌≢◌, List, [], ◌∷◌, map, length, get_or, slice_set, count_by, sym, ap, ◌∙◌, subst, arith, length-set, get_or-set_other, get_or-map, length-map, sum_by-cons, sum_by-set, Op, Nop, by_bool, op_at, label, ArePaired}
use Rattle.iloc_ops.specs.contracts.op.OpPartialEq.TheImpl as of_ops
use Rattle.iloc_facts.specs.Counts.{are_alike, count_like}
use Rattle.iloc_facts.proofs.CountsLike.{counts_same}

abbrev itself : Bool → Bool
itself b = b

-- what passes is led to as many true places, if none is led to twice
injected : {X : Type 0} → (p : X → Bool) (d : X) (xs : List X) (ys : List Bool) (to : ℕ → ℕ)
    → ((i : ℕ) → i < length xs → p (get_or xs i d) ≡ true → (to i < length ys) × (get_or ys (to i) false ≡ true))
    → ((i j : ℕ) → i < length xs → j < length xs → to i ≡ to j → i ≡ j) → count_by p xs ≤ count_by itself ys
injected p d [] ys to each apart = omega arith
injected {X} p d (x ∷ xs) ys to each apart =
    let cons : count_by p (x ∷ xs) ≡ cond (p x) 1 0 + count_by p xs = sum_by-cons (λ z. cond {A = ℕ} (p z) 1 0) x xs in
    by_bool (p x)
    (λ t.
    let one : cond {A = ℕ} (p x) 1 0 ≡ 1 = ap (λ b. cond {A = ℕ} b 1 0) t in
    let here = each 0 (omega arith) t in
    let gone : List Bool = slice_set ys (to 0) false in
    let set : count_by itself gone + cond {A = ℕ} (get_or ys (to 0) false) 1 0 ≡ count_by itself ys + 0 =
    sum_by-set (λ b. cond {A = ℕ} b 1 0) ys (to 0) false false here.0 in
    let taken : cond {A = ℕ} (get_or ys (to 0) false) 1 0 ≡ 1 = ap (λ b. cond {A = ℕ} b 1 0) here.1 in
    let rest : count_by p xs ≤ count_by itself gone =
    injected p d xs gone (λ i. to (suc i))
    (λ i within passes.
    let there = each (suc i) (omega arith) passes in
    let other : to (suc i) ≢ to 0 = λ same. absurd (let i-is : suc i ≡ 0 = apart (suc i) 0 (omega arith) (omega arith) same in omega arith) in
    let size : length gone ≡ length ys = length-set ys (to 0) false in
    (subst (λ n. to (suc i) < n) (sym size) there.0, get_or-set_other ys (to 0) (to (suc i)) false false other ∙ there.1))
    (λ i j here there same. let next : suc i ≡ suc j = apart (suc i) (suc j) (omega arith) (omega arith) same in omega arith) in
    omega (arith, cons, one, set, taken, rest))
    (λ t.
    let none : cond {A = ℕ} (p x) 1 0 ≡ 0 = ap (λ b. cond {A = ℕ} b 1 0) t in
    let rest : count_by p xs ≤ count_by itself ys =
    injected p d xs ys (λ i. to (suc i)) (λ i within passes. each (suc i) (omega arith) passes)
    (λ i j here there same. let next : suc i ≡ suc j = apart (suc i) (suc j) (omega arith) (omega arith) same in omega arith) in
    omega (arith, cons, none, rest))

module _ (block ops : List Op) (origin partner : ℕ → ℕ) (paired : ArePaired block ops origin partner) (op : Op) where
  abbrev tests : List Op → List Bool
  tests os = map (are_alike op) os

  tested : (os : List Op) (i : ℕ) → i < length os → get_or (tests os) i false ≡ are_alike op (op_at os i)
  tested os i within = get_or-map (are_alike op) os i Nop false within

  counted_tests : (os : List Op) → count_by itself (tests os) ≡ count_like op os
  counted_tests os =
      counts_same itself (are_alike op) (tests os) os false Nop (length-map os (are_alike op))
      (λ i within. tested os i (subst (λ n. i < n) (length-map os (are_alike op)) within))

  same_test : (k : ℕ) → k < length ops → are_alike op (op_at ops k) ≡ are_alike op (op_at block (origin k))
  same_test k within = ap (λ l. (of_ops.ghosts).eq (label op) l) (paired.labels k within)

  same_test_too : (i : ℕ) → i < length block → are_alike op (op_at block i) ≡ are_alike op (op_at ops (partner i))
  same_test_too i within =
      sym (same_test (partner i) (paired.there_too i within) ∙ ap (λ j. are_alike op (op_at block j)) (paired.back_too i within))

  pub paired_counts : count_like op block ≡ count_like op ops
  paired_counts =
      let few : count_like op block ≤ count_by itself (tests ops) =
      injected (are_alike op) Nop block (tests ops) partner
      (λ i within passes.
      let there = paired.there_too i within in (
        subst (λ n. partner i < n) (sym (length-map ops (are_alike op))) there,
        tested ops (partner i) there ∙ sym (same_test_too i within) ∙ passes,
      ))
      (λ i j here there same. sym (paired.back_too i here) ∙ ap origin same ∙ paired.back_too j there) in
      let few_too : count_like op ops ≤ count_by itself (tests block) =
      injected (are_alike op) Nop ops (tests block) origin
      (λ k within passes.
      let there = paired.there k within in (
        subst (λ n. origin k < n) (sym (length-map block (are_alike op))) there,
        tested block (origin k) there ∙ sym (same_test k within) ∙ passes,
      ))
      (λ j k here there same. sym (paired.back j here) ∙ ap partner same ∙ paired.back k there) in
      omega (arith, few, few_too, counted_tests ops, counted_tests block)
