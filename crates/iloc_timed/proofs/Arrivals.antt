-- When the results of a schedule arrive.
use Rattle.std.proofs.Common.{◌≡◌, ◌<◌, ◌≤◌, ℕ, ◌+◌, ◌==◌, true, List, ◌++◌, length, get_or, Option, Some, None, IfSome, option_to_list, unwrap_or, max, map, ap, arith, refl, inl, inr}
use Rattle.std.specs.Prelude.{option_map}
use Rattle.std.specs.List.{list_any, range_with_len}
use Rattle.std.proofs.lemmas.Bool.{eqb-true, or_cases, cases_lt}
use Rattle.std.proofs.lemmas.List.FromFn.{get_or-map-range_with_len, length-map-range_with_len}
use Rattle.iloc_ops.specs.declared.op.Op.{Op}
use Rattle.iloc_meaning.specs.Trace.{op_at}
use Rattle.iloc_timed.specs.declared.latencies.Latencies.{Latencies}
use Rattle.iloc_timed.specs.declared.row.Row.{Row}
use Rattle.iloc_timed.specs.declared.kind.Kind.{Kind}
use Rattle.iloc_timed.specs.declared.kind.Kind.TheVariants as K
use Rattle.iloc_timed.specs.Kinds.{kind}
use Rattle.iloc_timed.specs.Latency.{latency, latency_of}
use Rattle.iloc_timed.specs.Steps.Latencies.{by_kind, longest, place}
use Rattle.iloc_timed.specs.Rows.{row_at, slots, holds, issue_cycle, times_issued, AreNumbered, IsTable}
use Rattle.iloc_timed.specs.Cycles.{cycles}
use Rattle.iloc_timed.proofs.Counts.{any_contains}
use Rattle.iloc_timed.proofs.Greatest.{item_le_fold_max, fold_max_le}
use Rattle.iloc_timed.proofs.Issues.{issued_there, stands_there, holds_zero, holds_one}

-- when the result of what is issued in a slot arrives
abbrev pub arrival_in : Latencies → List Op → ℕ → Option ℕ → ℕ
arrival_in lat ops c slot = unwrap_or (option_map (λ i. c + latency lat (op_at ops i)) slot) 0

-- what stands at the place of a kind is its latency
placed : (lat : Latencies) (k : Kind) → get_or (by_kind lat) (place k) 0 ≡ latency_of lat k
placed lat K.Load = refl
placed lat K.Store = refl
placed lat K.Mult = refl
placed lat K.Output = refl
placed lat K.Other = refl

pub arrival_by_kind : (lat : Latencies) (table : List ℕ) (ops : List Op) (c : ℕ) (slot : Option ℕ) → table ≡ by_kind lat
    → unwrap_or (option_map (λ i. c + get_or table (place (kind (op_at ops i))) 0) slot) 0 ≡ arrival_in lat ops c slot
arrival_by_kind lat table ops c None is = refl
arrival_by_kind lat table ops c (Some i) is = rw (is) (ap (λ n. c + n) (placed lat (kind (op_at ops i))))

if_some : (slot : Option ℕ) (P : ℕ → Type 0) → ((i : ℕ) → slot ≡ Some i → P i) → IfSome slot P
if_some None P each = tt
if_some (Some i) P each = each i refl

-- the cycles of a schedule are a bound on each arrival, and the least
pub arrival_le_cycles : (lat : Latencies) (ops : List Op) (rows : List Row) (i : ℕ) → i < length ops
    → issue_cycle rows i + latency lat (op_at ops i) ≤ cycles lat ops rows
arrival_le_cycles lat ops rows i within =
    let f : ℕ → ℕ = λ j. issue_cycle rows j + latency lat (op_at ops j) in
    let size : length (map f (range_with_len 0 (length ops))) ≡ length ops =
    length-map-range_with_len f 0 (length ops) in
    let item : get_or (map f (range_with_len 0 (length ops))) i 0 ≡ f i =
    get_or-map-range_with_len f 0 (length ops) i i 0 within (omega arith) in
    rw (← item) (item_le_fold_max 0 (map f (range_with_len 0 (length ops))) i (rw size within))

pub cycles_le : (lat : Latencies) (ops : List Op) (rows : List Row) (m : ℕ)
    → ((i : ℕ) → i < length ops → issue_cycle rows i + latency lat (op_at ops i) ≤ m) → cycles lat ops rows ≤ m
cycles_le lat ops rows m each = grind (arith, length-map-range_with_len, fold_max_le, get_or-map-range_with_len)

-- what a slot of a row holds arrives by the last cycle
slot_le_cycles : (lat : Latencies) (ops : List Op) (rows : List Row) (c : ℕ) (slot : Option ℕ) → c < length rows
    → AreNumbered ops rows → ((i : ℕ) → slot ≡ Some i → holds (row_at rows c) i ≡ true)
    → arrival_in lat ops c slot ≤ cycles lat ops rows
slot_le_cycles lat ops rows c None within numbered there = omega arith
slot_le_cycles lat ops rows c (Some i) within numbered there =
    let known : i < length ops = numbered.in_range c i (any_contains (slots (row_at rows c)) i (there i refl)) in
    let at : issue_cycle rows i ≡ c = issued_there rows c i (numbered.once i known) within (there i refl) in
    rw (← at) (arrival_le_cycles lat ops rows i known)

pub zero_le_cycles : (lat : Latencies) (ops : List Op) (rows : List Row) (c : ℕ) → c < length rows → AreNumbered ops rows
    → arrival_in lat ops c (row_at rows c).zero ≤ cycles lat ops rows
zero_le_cycles lat ops rows c within numbered = slot_le_cycles lat ops rows c (row_at rows c).zero within numbered
    (λ i is. holds_zero (row_at rows c) i is)

pub one_le_cycles : (lat : Latencies) (ops : List Op) (rows : List Row) (c : ℕ) → c < length rows → AreNumbered ops rows
    → arrival_in lat ops c (row_at rows c).one ≤ cycles lat ops rows
one_le_cycles lat ops rows c within numbered =
    slot_le_cycles lat ops rows c (row_at rows c).one within numbered (λ i is. holds_one (row_at rows c) i is)

-- the slots of a row are numbers of operations
pub zero_numbered : (ops : List Op) (rows : List Row) (c : ℕ) → AreNumbered ops rows
    → IfSome (row_at rows c).zero (λ i. i < length ops)
zero_numbered ops rows c numbered = if_some (row_at rows c).zero _
    (λ i is. numbered.in_range c i (any_contains (slots (row_at rows c)) i (holds_zero (row_at rows c) i is)))

pub one_numbered : (ops : List Op) (rows : List Row) (c : ℕ) → AreNumbered ops rows
    → IfSome (row_at rows c).one (λ i. i < length ops)
one_numbered ops rows c numbered = if_some (row_at rows c).one _
    (λ i is. numbered.in_range c i (any_contains (slots (row_at rows c)) i (holds_one (row_at rows c) i is)))

-- a schedule's rows are numbered so
pub table_numbered : (ops : List Op) (rows : List Row) → IsTable ops rows → AreNumbered ops rows
table_numbered ops rows table = record { in_range = table.in_range; once = table.once }

pub zero_known : (ops : List Op) (rows : List Row) (c : ℕ) → IsTable ops rows
    → IfSome (row_at rows c).zero (λ i. i < length ops)
zero_known ops rows c table = zero_numbered ops rows c (table_numbered ops rows table)

pub one_known : (ops : List Op) (rows : List Row) (c : ℕ) → IsTable ops rows
    → IfSome (row_at rows c).one (λ i. i < length ops)
one_known ops rows c table = one_numbered ops rows c (table_numbered ops rows table)

-- of what the slots of a row hold, the later arrives at the greater of the two cycles
either_arrives : (lat : Latencies) (ops : List Op) (c i : ℕ) (one zero : Option ℕ)
    → list_any (λ j. i == j) (option_to_list one ++ option_to_list zero) ≡ true
    → c + latency lat (op_at ops i) ≤ max (arrival_in lat ops c zero) (arrival_in lat ops c one)
either_arrives lat ops c i one zero any = grind (arith, or_cases, eqb-true)

-- what is issued in row c arrives by the greater of the two cycles
pub issued_arrives : (lat : Latencies) (ops : List Op) (rows : List Row) (i : ℕ) → i < length ops → AreNumbered ops rows
    → issue_cycle rows i + latency lat (op_at ops i)
    ≤ max (arrival_in lat ops (issue_cycle rows i) (row_at rows (issue_cycle rows i)).zero)
    (arrival_in lat ops (issue_cycle rows i) (row_at rows (issue_cycle rows i)).one)
issued_arrives lat ops rows i within numbered = grind (arith, either_arrives, stands_there)

issued_below : (ops : List Op) (rows : List Row) (i : ℕ) → i < length ops → AreNumbered ops rows
    → issue_cycle rows i < length rows
issued_below ops rows i within numbered =
    let once : times_issued rows i ≡ 1 = numbered.once i within in (stands_there rows i (omega arith)).0

pub issued_within : (ops : List Op) (rows : List Row) (i : ℕ) → i < length ops → IsTable ops rows
    → issue_cycle rows i < length rows
issued_within ops rows i within table = issued_below ops rows i within (table_numbered ops rows table)

-- no operation takes longer than the longest latency
latency_le_longest : (lat : Latencies) (k : Kind) → latency_of lat k ≤ longest lat
latency_le_longest lat K.Load = let some : 1 ≤ lat.load = lat.some_load in omega arith
latency_le_longest lat _ = let some : 1 ≤ lat.load = lat.some_load in omega arith

-- the last arrival of what is issued from cycle c on
pub record IsLastFrom (lat : Latencies) (ops : List Op) (rows : List Row) (c last : ℕ) : Type 0 where
  pub most : last ≤ cycles lat ops rows
  pub each : (i : ℕ) → i < length ops → c ≤ issue_cycle rows i → issue_cycle rows i + latency lat (op_at ops i) ≤ last

pub none_from_end : (lat : Latencies) (ops : List Op) (rows : List Row) → AreNumbered ops rows
    → IsLastFrom lat ops rows (length rows) 0
none_from_end lat ops rows numbered = grind (arith, issued_below)

pub one_row_more : (lat : Latencies) (ops : List Op) (rows : List Row) (c last next final : ℕ) → AreNumbered ops rows
    → c < length rows → IsLastFrom lat ops rows (c + 1) last
    → next ≡ max (arrival_in lat ops c (row_at rows c).zero) last
    → final ≡ max (arrival_in lat ops c (row_at rows c).one) next → IsLastFrom lat ops rows c final
one_row_more lat ops rows c last next final numbered within so_far first second = record {
  most =
      let a : arrival_in lat ops c (row_at rows c).zero ≤ cycles lat ops rows =
      zero_le_cycles lat ops rows c within numbered in
      let b : arrival_in lat ops c (row_at rows c).one ≤ cycles lat ops rows =
      one_le_cycles lat ops rows c within numbered in
      omega (arith, so_far.most);
  each = λ i known from. elim (cases_lt c (issue_cycle rows i)) [
    | inl later ↦ omega (arith, so_far.each i known (omega arith))
    | inr here ↦
        let at : issue_cycle rows i ≡ c = omega arith in
        let by : c + latency lat (op_at ops i) ≤ max (arrival_in lat ops c (row_at rows c).zero)
        (arrival_in lat ops c (row_at rows c).one) = rw at at (issued_arrives lat ops rows i known numbered) in
        rw at (omega arith)
  ];
}

-- no row before cycle c holds what arrives later
pub last_is_cycles : (lat : Latencies) (ops : List Op) (rows : List Row) (c last : ℕ)
    → (0 < c → c + longest lat ≤ last) → IsLastFrom lat ops rows c last → last ≡ cycles lat ops rows
last_is_cycles lat ops rows c last past so_far = grind (arith, cycles_le, cases_lt, latency_le_longest)
