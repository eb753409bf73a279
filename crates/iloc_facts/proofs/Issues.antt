-- What a table issues, by numbers: each operation once, with what it reads then.
use Rattle.iloc_facts.proofs.Common.{◌≡◌, ℕ, zero, suc, List, ◌++◌, map, ℤ, Option, option_to_list, sym, refl, ap, inl, inr, arith, map-append, Op, op_at, IsTable, issue_cycle, row_at, slots, Issued, issue, Latencies, Row, from_append, in_left, in_right, map_same, cycle_is, numbers_before, In, in_order, issued_before}
use Rattle.iloc_timed.specs.Timed as timed

-- operation k as it is issued
unfoldable pub issued_at : Latencies → List Op → List Row → List ℤ → ℕ → Issued
issued_at lat ops rows memory k =
    issue lat memory (issue_cycle rows k) (timed.issued_before lat memory ops rows (issue_cycle rows k)) (op_at ops k)

pub issued_here : (lat : Latencies) (ops : List Op) (rows : List Row) (memory : List ℤ) (c k : ℕ) → issue_cycle rows k ≡ c
    → issue lat memory c (timed.issued_before lat memory ops rows c) (op_at ops k) ≡ issued_at lat ops rows memory k
unfolding issued_at
issued_here lat ops rows memory c k at =
    ap (λ n. issue lat memory n (timed.issued_before lat memory ops rows n) (op_at ops k)) (sym at)

pub log_is : (lat : Latencies) (ops : List Op) (rows : List Row) (memory : List ℤ) (table : IsTable ops rows) (c : ℕ)
    → timed.issued_before lat memory ops rows c ≡ map (issued_at lat ops rows memory) (numbers_before rows c)
log_is lat ops rows memory table zero = refl
log_is lat ops rows memory table (suc c) = grind (arith, cycle_is, issued_at, issued_here, map-append, map_same, log_is lat ops rows memory table c)

in_row : (a b : Option ℕ) (k : ℕ) → In (option_to_list a ++ option_to_list b) k
    → In (option_to_list b ++ option_to_list a) k
in_row a b k there = grind (arith, from_append, in_left, in_right, option_to_list)

-- the order of issue names the same operations as that which begins with the latest
pub numbers_from_issued : (rows : List Row) (c k : ℕ) → In (issued_before rows c) k → In (numbers_before rows c) k
numbers_from_issued rows zero k there = absurd there
numbers_from_issued rows (suc c) k there = elim (from_append (issued_before rows c) (in_order (row_at rows c)) k there) [
  | inl before ↦ in_right (slots (row_at rows c)) _ k (numbers_from_issued rows c k before)
  | inr here ↦ in_left (slots (row_at rows c)) _ k (in_row (row_at rows c).zero (row_at rows c).one k here)
]

pub issued_from_numbers : (rows : List Row) (c k : ℕ) → In (numbers_before rows c) k → In (issued_before rows c) k
issued_from_numbers rows zero k there = absurd there
issued_from_numbers rows (suc c) k there = elim (from_append (slots (row_at rows c)) (numbers_before rows c) k there) [
  | inl here ↦ in_right (issued_before rows c) _ k (in_row (row_at rows c).one (row_at rows c).zero k here)
  | inr before ↦ in_left (issued_before rows c) _ k (issued_from_numbers rows c k before)
]
