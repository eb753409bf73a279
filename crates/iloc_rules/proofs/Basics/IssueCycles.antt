-- The cycles of issue in rows that grow; for the schedule that is made row after row.
use Rattle.iloc_rules.proofs.Common.{◌≡◌, ℕ, zero, suc, ◌+◌, ◌<◌, ◌≤◌, List, [], ◌∷◌, ◌++◌, length, sym, refl, ◌∙◌, subst, add-one, arith, get_or_past, by_bool, empty_row, holds, issue_cycle, row_at, slots, times_issued, Row, In}
use Rattle.std.proofs.Math.ListN.{get_or-append}
use Rattle.std.proofs.Math.Seq.{get_or-append_seam}
use Rattle.iloc_rules.proofs.Basics.Slots.{count_in, count_in_none, times_issued-cons, holds_from, from_holds}

pub issue_cycle_within : (rows : List Row) (i : ℕ) → issue_cycle rows i ≤ length rows
issue_cycle_within [] i = omega arith
issue_cycle_within (row ∷ rows) i = grind (arith, issue_cycle_within rows i)

pub issue_cycle_front : (rows more : List Row) (i : ℕ) → issue_cycle rows i < length rows
    → issue_cycle (rows ++ more) i ≡ issue_cycle rows i
issue_cycle_front [] more i within = absurd (omega arith)
issue_cycle_front (row ∷ rows) more i within = grind (arith, issue_cycle_front rows more i)

pub issue_cycle_back : (rows more : List Row) (i : ℕ) → length rows ≤ issue_cycle rows i
    → issue_cycle (rows ++ more) i ≡ length rows + issue_cycle more i
issue_cycle_back [] more i beyond = omega arith
issue_cycle_back (row ∷ rows) more i beyond = grind (arith, issue_cycle_back rows more i)

pub issue_cycle_more : (rows : List Row) (row : Row) (i : ℕ) → issue_cycle rows i < length rows
    → issue_cycle (rows ++ row ∷ []) i ≡ issue_cycle rows i
issue_cycle_more rows row i within = issue_cycle_front rows (row ∷ []) i within

pub issue_cycle_last : (rows : List Row) (row : Row) (i : ℕ) → length rows ≤ issue_cycle rows i → In (slots row) i
    → issue_cycle (rows ++ row ∷ []) i ≡ length rows
issue_cycle_last rows row i beyond there = grind (arith, holds_from, issue_cycle_back)

pub issue_cycle_beyond : (rows : List Row) (row : Row) (i : ℕ) → length rows ≤ issue_cycle rows i
    → (In (slots row) i → ⊥) → issue_cycle (rows ++ row ∷ []) i ≡ length rows + 1
issue_cycle_beyond rows row i beyond not_there = grind (arith, from_holds, issue_cycle_back)

pub row_at_more : (rows : List Row) (row : Row) (c : ℕ) → c < length rows → row_at (rows ++ row ∷ []) c ≡ row_at rows c
row_at_more rows row c within = get_or-append rows (row ∷ []) empty_row c within

pub row_at_last : (rows : List Row) (row : Row) → row_at (rows ++ row ∷ []) (length rows) ≡ row
row_at_last rows row = get_or-append_seam rows row [] empty_row

pub row_at_past : (rows : List Row) (c : ℕ) → length rows ≤ c → row_at rows c ≡ empty_row
row_at_past rows c past = get_or_past rows c empty_row past

-- a row holds no operation that is issued later
pub issued_by : (rows : List Row) (c i : ℕ) → In (slots (row_at rows c)) i → issue_cycle rows i ≤ c
issued_by [] c i there = absurd there
issued_by (row ∷ rows) zero i there = rw (holds_from row i there) (omega arith)
issued_by (row ∷ rows) (suc c) i there = grind (arith, issued_by rows c i there)

-- an operation that no row holds is issued in no slot
pub times_none : (rows : List Row) (i : ℕ) → ((c : ℕ) → c < length rows → In (slots (row_at rows c)) i → ⊥)
    → times_issued rows i ≡ 0
times_none [] i none = refl
times_none (row ∷ rows) i none =
    let rest : times_issued rows i ≡ 0 = times_none rows i (λ c below there. none (suc c) (omega arith) there) in
    let here : count_in row i ≡ 0 = by_bool (holds row i) (λ t. absurd (none 0 (omega arith) (from_holds row i t)))
    (λ t. count_in_none row i t) in
    times_issued-cons row rows i ∙ omega arith

-- an operation that stands once in the row of its cycle, and in no later one, is issued in one slot
pub times_one : (rows : List Row) (i : ℕ) → issue_cycle rows i < length rows
    → count_in (row_at rows (issue_cycle rows i)) i ≡ 1
    → ((c : ℕ) → issue_cycle rows i < c → c < length rows → In (slots (row_at rows c)) i → ⊥) → times_issued rows i ≡ 1
times_one [] i within once none = absurd (omega arith)
times_one (row ∷ rows) i within once none =
    by_bool (holds row i)
    (λ t.
    let first : issue_cycle (row ∷ rows) i ≡ 0 = rw t refl in
    let here : count_in row i ≡ 1 = rw t at once in
    let rest : times_issued rows i ≡ 0 = times_none rows i
    (λ c below there. none (suc c) (subst (λ n. n < suc c) (sym first) (omega arith)) (omega arith) there) in
    times_issued-cons row rows i ∙ omega arith)
    (λ t.
    let later : issue_cycle (row ∷ rows) i ≡ suc (issue_cycle rows i) = rw (t, add-one) refl in
    let there : count_in (row_at rows (issue_cycle rows i)) i ≡ 1 = rw (t, add-one) at once in
    let here : count_in row i ≡ 0 = count_in_none row i t in
    let inner : suc (issue_cycle rows i) < suc (length rows) = rw (t, add-one) at within in
    let rest : times_issued rows i ≡ 1 = times_one rows i (omega arith) there (λ c above under inside.
    none (suc c) (subst (λ n. n < suc c) (sym later) (omega arith)) (omega arith) inside) in
    times_issued-cons row rows i ∙ omega arith)
