-- What a stretch of a path begins with, and how long it is.
use Rattle.iloc_explain.proofs.Common.{◌≡◌, ℕ, zero, suc, ◌+◌, ◌-◌, ◌<◌, ◌≤◌, Bool, true, false, not, ◌⊎◌, List, [], ◌∷◌, length, is_some, nat_lt, ◌==◌, slice_get, Some, None, Option, option_to_list, sym, refl, inl, inr, arith, and_from, and_parts, eq-eqb, eqb-true, lt-ltb, ltb-true, none-some, same_Some, list_any, Op, op_at, issued_within, holds_one, holds_zero, issued_there, stands_there, IsTable, holds, issue_cycle, row_at, slots, times_issued, Latencies, MemoryRule, Row, any_at, contains_from, from_any, from_filter, in_filter, in_from, in_left, in_right, delay_at_least_where, delays_where, counts_by, In, Binds, origin, span, IsReadyAt, WaitsUntil, ends_at, issue_order, waited_until, Delay, Free, Held}
use Rattle.iloc_timed.proofs.Counts.{any_contains}
use Rattle.iloc_explain.specs.declared.path.Stretch.{Stretch}
use Rattle.iloc_explain.specs.Holding.{keeper, keeper_of}
use Rattle.iloc_explain.proofs.IssueCycles.{in_slots}
use Rattle.iloc_explain.proofs.Waits.{in_order}

-- the first of a list is in it
pub first_in_list : (xs : List ℕ) (i : ℕ) → slice_get xs 0 ≡ Some i → In xs i
first_in_list [] i is = absurd (none-some i is)
first_in_list (x ∷ xs) i is = inl (same_Some x i is)

-- what an operation waited for comes before it, and is issued before the wait is over
pub waited_earlier : (rule : MemoryRule) (lat : Latencies) (ops : List Op) (rows : List Row) (j c i : ℕ)
    → slice_get (waited_until rule lat ops rows j c) 0 ≡ Some i → (i < j) × (issue_cycle rows i < c)
waited_earlier rule lat ops rows j c i is =
    let found = from_filter (ends_at rule lat ops rows j c) (issue_order rows) i
    (first_in_list (waited_until rule lat ops rows j c) i is) in
    let both = and_parts (nat_lt i j)
    (list_any (λ d. issue_cycle rows i + d == c) (delays_where (counts_by rule ops i j) lat (op_at ops i) (op_at ops j))) found.1 in
    let one = from_any (λ d. issue_cycle rows i + d == c) (delays_where (counts_by rule ops i j) lat (op_at ops i) (op_at ops j)) both.1 in
    let sum : issue_cycle rows i + one.0 ≡ c = eqb-true (issue_cycle rows i + one.0) c one.2 in
    let some : 1 ≤ one.0 = delay_at_least_where (counts_by rule ops i j) lat (op_at ops i) (op_at ops j) one.0
    (contains_from (delays_where (counts_by rule ops i j) lat (op_at ops i) (op_at ops j)) one.0 one.1) in
    (ltb-true i j both.0, omega arith)

-- what keeps an operation out of a row is in the row
keeper_there : (ops : List Op) (j : ℕ) (zero one : Option ℕ) (h : ℕ) → keeper_of ops j zero one ≡ Some h
    → (zero ≡ Some h) ⊎ (one ≡ Some h)
keeper_there ops j None None h is = absurd (none-some h is)
keeper_there ops j (Some a) None h is = grind (arith, none-some)
keeper_there ops j None (Some b) h is = grind (arith, none-some)
keeper_there ops j (Some a) (Some b) h is = grind arith

pub keeper_holds : (ops : List Op) (row : Row) (j h : ℕ) → keeper ops row j ≡ Some h → holds row h ≡ true
keeper_holds ops row j h is = grind (arith, holds_one, holds_zero, keeper_there)

-- a stretch takes a cycle at least, and begins in cycle 0 or later
pub binds_long : (rule : MemoryRule) (lat : Latencies) (ops : List Op) (rows : List Row) (j c : ℕ) (s : Stretch) → Binds rule lat ops rows j c s
    → (0 < span s) × (span s ≤ c)
binds_long rule lat ops rows j c s h1 = grind (arith, waited_earlier)

-- what an operation is kept out by is an operation, issued in that row
pub kept_by : (ops : List Op) (rows : List Row) (j b h : ℕ) → IsTable ops rows → b < length rows
    → keeper ops (row_at rows b) j ≡ Some h → (h < length ops) × (issue_cycle rows h ≡ b)
kept_by ops rows j b h table within is =
    let held : holds (row_at rows b) h ≡ true = keeper_holds ops (row_at rows b) j h is in
    let known : h < length ops = table.in_range b h (any_contains (slots (row_at rows b)) h held) in
    (known, issued_there rows b h (table.once h known) within held)

-- a stretch begins with an operation, in the cycle of its issue or before
pub binds_from : (rule : MemoryRule) (lat : Latencies) (ops : List Op) (rows : List Row) (j c : ℕ) (s : Stretch) → IsTable ops rows
    → j < length ops → c ≤ issue_cycle rows j → Binds rule lat ops rows j c s
    → (origin s j < length ops) × (c - span s ≤ issue_cycle rows (origin s j))
binds_from rule lat ops rows j c (Delay i d) table known within (ready, first, sum) = grind (arith, waited_earlier)
binds_from rule lat ops rows j c (Held h) table known within (r, ready, later, is) =
    let last : issue_cycle rows j < length rows = issued_within ops rows j known table in
    let there = kept_by ops rows j (c - 1) h table (omega arith) is in
    let at : issue_cycle rows h ≡ c - 1 = there.1 in
    (there.0, omega arith)
binds_from rule lat ops rows j c (Free n) table known within (r, ready, had) = (known, omega arith)

-- an operation that is issued is in the order of issue
in_row_order : (row : Row) (i : ℕ) → holds row i ≡ true → In (in_order row) i
in_row_order row i held = grind (arith, in_left, in_right, in_slots, option_to_list)

row_in_order : (rows : List Row) (c i : ℕ) → c < length rows → In (in_order (row_at rows c)) i → In (issue_order rows) i
row_in_order [] c i within there = absurd (omega arith)
row_in_order (row ∷ rows) zero i within there = in_left (in_order row) (issue_order rows) i there
row_in_order (row ∷ rows) (suc c) i within there =
    in_right (in_order row) (issue_order rows) i (row_in_order rows c i (omega arith) there)

pub issued_in_order : (ops : List Op) (rows : List Row) (i : ℕ) → IsTable ops rows → i < length ops → In (issue_order rows) i
issued_in_order ops rows i table known =
    let once : times_issued rows i ≡ 1 = table.once i known in
    let there = stands_there rows i (omega arith) in
    row_in_order rows (issue_cycle rows i) i there.0 (in_row_order (row_at rows (issue_cycle rows i)) i there.1)

-- what waits until a cycle waited for something
pub waits_listed : (rule : MemoryRule) (lat : Latencies) (ops : List Op) (rows : List Row) (i j c : ℕ) → IsTable ops rows
    → WaitsUntil rule lat ops rows i j c → In (waited_until rule lat ops rows j c) i
waits_listed rule lat ops rows i j c table waits =
    let order : i < j = waits.pair.order in
    let within : j < length ops = waits.pair.within in
    let test : list_any (λ d. issue_cycle rows i + d == c) (delays_where (counts_by rule ops i j) lat (op_at ops i) (op_at ops j)) ≡ true =
    any_at (λ d. issue_cycle rows i + d == c) (delays_where (counts_by rule ops i j) lat (op_at ops i) (op_at ops j)) waits.delay
    (in_from (delays_where (counts_by rule ops i j) lat (op_at ops i) (op_at ops j)) waits.delay waits.pair.delay)
    (eq-eqb (issue_cycle rows i + waits.delay) c waits.ends) in
    in_filter (ends_at rule lat ops rows j c) (issue_order rows) i (issued_in_order ops rows i table (omega arith))
    (and_from (nat_lt i j) _ (lt-ltb i j order) test)

-- where an operation that is ready waited for nothing, it is ready from the start
pub none_waited : (rule : MemoryRule) (lat : Latencies) (ops : List Op) (rows : List Row) (j c : ℕ) → IsTable ops rows → IsReadyAt rule lat ops rows j c
    → slice_get (waited_until rule lat ops rows j c) 0 ≡ None → c ≡ 0
none_waited rule lat ops rows j c table ready none = elim ready.earliest [
  | inl start ↦ start
  | inr (i, waits) ↦ absurd (not_in (waited_until rule lat ops rows j c) i none (waits_listed rule lat ops rows i j c table waits))
]
  where
    not_in : (xs : List ℕ) (i : ℕ) → slice_get xs 0 ≡ None → In xs i → ⊥
    not_in [] i none there = there
    not_in (x ∷ xs) i none there = none-some x (sym none)

-- an option that has nothing
pub is_none_from : {X : Type 0} → (o : Option X) (none : Bool) → is_some o ≡ not none → none ≡ true → o ≡ None
is_none_from None none same is = refl
is_none_from (Some x) none same is = let some : true ≡ false = rw is at same in absurd cc
