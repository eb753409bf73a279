-- What the operations of a block read, one after another.
use Rattle.iloc_facts.proofs.Common.{◌≡◌, ℕ, ◌+◌, ◌<◌, List, [], ◌∷◌, ◌++◌, length, get_or, Some, None, true≢false, add-one, arith, eq-eqb, eqb-true, cases_eq, get_or_append_left, get_or_push, defined, Op, Reg, op_at, given, ChangesOnly, holder, Holders}

-- what holds of each item of a list, and of one more behind them
pub push_more : {X : Type 0} (P : ℕ → X → Type 0) (xs : List X) (x d : X) (n : ℕ) → length xs ≡ n
    → ((j : ℕ) → j < n → P j (get_or xs j d)) → P n x → (j : ℕ) → j < n + 1 → P j (get_or (xs ++ x ∷ []) j d)
push_more P xs x d n size each last j within = grind (arith, cases_eq, get_or_append_left, get_or_push)

-- where no register is defined, each holds what it held
pub none_set : (block : List Op) (i : ℕ) (holders : Holders) → None ≡ defined (op_at block i)
    → ((r : Reg) → holder holders r ≡ given block i r) → (r : Reg) → holder holders r ≡ given block (i + 1) r
none_set block i holders is held r = grind (arith, add-one)

-- the register that is defined holds the new result
pub one_set : (block : List Op) (i : ℕ) (s : Reg) (old new : Holders) → Some s ≡ defined (op_at block i)
    → ((r : Reg) → holder old r ≡ given block i r) → ChangesOnly old new s i → (r : Reg)
    → holder new r ≡ given block (i + 1) r
one_set block i s old new is held changes r = grind (arith, add-one, eq-eqb, eqb-true, true≢false)
