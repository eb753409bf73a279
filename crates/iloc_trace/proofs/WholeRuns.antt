-- The events of a schedule from its start to its end.
use Rattle.iloc_trace.proofs.Common.{◌≡◌, ℕ, zero, suc, ◌+◌, ◌-◌, ◌≤◌, Bool, true, List, [], ◌++◌, ℤ, sym, refl, ap, ◌∙◌, append_assoc, append-nil, add-zero, add-one, arith, flat_map-append, flat_map, range_with_len, Op, has_fault, fault_later, row_more, row_at, slots, executed_in, issue_all, issued_before, Latencies, Row, trace_lines}
use Rattle.iloc_trace.specs.Events.{Event, events_after, events_at}
use Rattle.iloc_trace.specs.declared.machine.TracedMachine.{TracedMachine}
use Rattle.iloc_trace.specs.Steps.Rows.{After}

-- what happens before cycle n
abbrev pub events_before : Latencies → List ℤ → List Op → List Row → ℕ → List Event
events_before lat memory ops rows n = flat_map (events_at lat memory ops rows) (range_with_len 0 n)

pub from_more : {X : Type 0} (f : ℕ → List X) (a n j : ℕ) → a + n ≡ j
    → flat_map f (range_with_len a (suc n)) ≡ flat_map f (range_with_len a n) ++ f j
from_more f a zero j is = let same : a ≡ j = omega arith in append-nil (f a) ∙ ap f same
from_more f a (suc n) j is = grind (arith, append_assoc, from_more f (a + 1) n j (omega arith))

pub events_more : (lat : Latencies) (memory : List ℤ) (ops : List Op) (rows : List Row) (c : ℕ)
    → events_before lat memory ops rows (c + 1)
    ≡ events_before lat memory ops rows c ++ events_at lat memory ops rows c
events_more lat memory ops rows c = rw add-one (from_more (events_at lat memory ops rows) 0 c c (omega arith))

-- one cycle more is listed
pub listed_more : (lat : Latencies) (memory : List ℤ) (ops : List Op) (rows : List Row) (c : ℕ)
    (first text next_text : List ℕ) → text ≡ first ++ trace_lines (events_before lat memory ops rows c)
    → next_text ≡ text ++ trace_lines (events_at lat memory ops rows c)
    → next_text ≡ first ++ trace_lines (events_before lat memory ops rows (c + 1))
listed_more lat memory ops rows c first text next_text so_far next = grind (arith, append_assoc, events_more, flat_map-append)

pub row_more_listed : (lat : Latencies) (memory : List ℤ) (ops : List Op) (rows : List Row) (c : ℕ) (row : Row)
    (first text next_text : List ℕ) → row ≡ row_at rows c
    → text ≡ first ++ trace_lines (events_before lat memory ops rows c)
    → next_text ≡ text ++ trace_lines (events_after lat memory ops row c (issued_before lat memory ops rows c))
    → next_text ≡ first ++ trace_lines (events_before lat memory ops rows (c + 1))
row_more_listed lat memory ops rows c row first text next_text is so_far next = grind (arith, listed_more)

-- one row more
pub follows_more : (lat : Latencies) (memory : List ℤ) (ops : List Op) (rows : List Row) (c : ℕ) (row : Row)
    (goes_on : Bool) (m : TracedMachine) → row ≡ row_at rows c
    → After goes_on lat memory (c + 1) (issue_all lat memory ops c (slots row) (issued_before lat memory ops rows c)) m
    → After goes_on lat memory (c + 1) (issued_before lat memory ops rows (c + 1)) m
follows_more lat memory ops rows c row goes_on m is after = grind (arith, row_more)

-- nothing happens after a fault
none_later : (lat : Latencies) (memory : List ℤ) (ops : List Op) (rows : List Row) (c more : ℕ)
    → has_fault (executed_in (issued_before lat memory ops rows c)) ≡ true
    → events_before lat memory ops rows (c + more) ≡ events_before lat memory ops rows c
none_later lat memory ops rows c zero fault = rw add-zero refl
none_later lat memory ops rows c (suc more) fault =
    let there : has_fault (executed_in (issued_before lat memory ops rows (c + more))) ≡ true =
    fault_later lat memory ops rows c more fault in
    let step : c + suc more ≡ c + more + 1 = omega arith in
    let none : events_at lat memory ops rows (c + more) ≡ [] = rw there refl in
    ap (events_before lat memory ops rows) step
    ∙ events_more lat memory ops rows (c + more)
    ∙ ap (λ l. events_before lat memory ops rows (c + more) ++ l) none
    ∙ append-nil _
    ∙ none_later lat memory ops rows c more fault

pub ends_at_fault : (lat : Latencies) (memory : List ℤ) (ops : List Op) (rows : List Row) (c n : ℕ) → c ≤ n
    → has_fault (executed_in (issued_before lat memory ops rows c)) ≡ true
    → events_before lat memory ops rows c ≡ events_before lat memory ops rows n
ends_at_fault lat memory ops rows c n within fault =
    let rest : c + (n - c) ≡ n = omega arith in
    sym (none_later lat memory ops rows c (n - c) fault) ∙ ap (events_before lat memory ops rows) rest
