-- The first of some rows that holds an operation.
use Rattle.iloc_verdict.proofs.Common.{◌≡◌, ℕ, zero, suc, ◌<◌, true, false, List, [], ◌∷◌, length, take, arith, holds, issue_cycle, row_at}
use Rattle.iloc_timed.specs.declared.row.Row.{Row}

-- where none of the first n does, the next may
pub issued_next : (rows : List Row) (n i : ℕ) → n < length rows → issue_cycle (take n rows) i ≡ n → holds (row_at rows n) i ≡ true
    → issue_cycle rows i ≡ n
issued_next [] n i within none here = absurd (omega arith)
issued_next (row ∷ rows) zero i within none here = grind arith
issued_next (row ∷ rows) (suc n) i within none here = grind (arith, issued_next rows n i)

-- or not
pub issued_later : (rows : List Row) (n i : ℕ) → n < length rows → issue_cycle (take n rows) i ≡ n
    → holds (row_at rows n) i ≡ false → issue_cycle (take (suc n) rows) i ≡ suc n
issued_later [] n i within none other = absurd (omega arith)
issued_later (row ∷ rows) zero i within none other = grind arith
issued_later (row ∷ rows) (suc n) i within none other = grind (arith, issued_later rows n i)
