-- How many operations are like one, and like it so far.
use Rattle.iloc_facts.proofs.Common.{◌≡◌, ℕ, suc, ◌+◌, ◌<◌, ◌≤◌, Bool, true, false, cond, List, [], ◌∷◌, length, get_or, take, count_by, sym, refl, ap, ◌∙◌, arith, count_by_more_no, count_by_more_yes, sum_by-cons, sum_by_more_le, Op, Nop, op_at, are_alike, count_like}

-- one that passes is counted
pub counted : {X : Type 0} → (p : X → Bool) (xs : List X) (i : ℕ) (d : X) → i < length xs → p (get_or xs i d) ≡ true
    → count_by p (take i xs) + 1 ≤ count_by p xs
counted p xs i d within passes = grind (arith, sum_by_more_le)

-- lists that pass the same tests at the same places count the same
pub counts_same : {X Y : Type 0} → (p : X → Bool) (q : Y → Bool) (xs : List X) (ys : List Y) (d : X) (e : Y)
    → length xs ≡ length ys → ((i : ℕ) → i < length xs → p (get_or xs i d) ≡ q (get_or ys i e)) → count_by p xs ≡ count_by q ys
counts_same p q [] [] d e size same = refl
counts_same p q (x ∷ xs) (y ∷ ys) d e size same =
    let first : p x ≡ q y = same 0 (omega arith) in
    let rest = counts_same p q xs ys d e (omega arith) (λ i within. same (suc i) (omega arith)) in
    sum_by-cons (λ z. cond {A = ℕ} (p z) 1 0) x xs
    ∙ ap (λ b. cond {A = ℕ} b 1 0 + count_by p xs) first
    ∙ ap (λ n. cond {A = ℕ} (q y) 1 0 + n) rest
    ∙ sym (sum_by-cons (λ z. cond {A = ℕ} (q z) 1 0) y ys)
counts_same p q xs ys d e size same = absurd (omega arith)

module _ (op : Op) (ops : List Op) (k : ℕ) (within : k < length ops) where
  pub one_more : are_alike op (op_at ops k) ≡ true → count_like op (take (k + 1) ops) ≡ count_like op (take k ops) + 1
  one_more alike = count_by_more_yes (are_alike op) ops k Nop within alike

  pub no_more : are_alike op (op_at ops k) ≡ false → count_like op (take (k + 1) ops) ≡ count_like op (take k ops)
  no_more other = count_by_more_no (are_alike op) ops k Nop within other

  pub one_counted : are_alike op (op_at ops k) ≡ true → count_like op (take k ops) + 1 ≤ count_like op ops
  one_counted alike = counted (are_alike op) ops k Nop within alike
