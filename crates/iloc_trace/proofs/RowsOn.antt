-- A row, and what follows from it.
use Rattle.iloc_trace.proofs.Common.{◌≡◌, ℕ, ◌+◌, Bool, true, false, not, ◌||◌, List, [], ◌∷◌, ◌++◌, map, ℤ, Some, Option, option_to_list, sym, refl, ap, ◌∙◌, ap₂, append_assoc, append-nil, arith, or_cases, or_parts, or_right, flat_map-append, All, Op, results_go, has_fault, op_at, no_fault, short_latency, some_latency, slots, AllLand, Issued, executed_in, issue, issue_all, Latencies, Row, event_line, trace_lines}
use Rattle.iloc_timed.proofs.Landing.{landed-later}
use Rattle.iloc_trace.specs.declared.machine.TracedMachine.{TracedMachine}
use Rattle.iloc_trace.specs.Events.{due_at, events_after, issue_of, issues, landed, writes, in_slot as issued_in}
use Rattle.iloc_trace.specs.Steps.Arrivals.{CanArrive, arrival_lines, arrivals, due_now}
use Rattle.iloc_trace.specs.Steps.Rows.{After, Follows, in_slot, place_value, row_faults, row_lines, sent_from, sent_in, slot_faults}
use Rattle.iloc_trace.proofs.Landing.{landing_lines}
use Rattle.iloc_trace.proofs.Issuing.{arrivals_one, effect_now, slot_lines}

-- the lines of a row
pub row_listed : (lat : Latencies) (memory : List ℤ) (ops : List Op) (row : Row) (c : ℕ) (log : List Issued)
    (m m' : TracedMachine) (first landed_text text : List ℕ) → Follows lat memory c log m → Follows lat memory (c + 1) log m'
    → All CanArrive m.under_way → landed_text ≡ first ++ arrival_lines c (place_value m) (due_now c m.under_way)
    → text ≡ landed_text ++ row_lines lat m' ops row c
    → text ≡ first ++ trace_lines (events_after lat memory ops row c log)
row_listed lat memory ops row c log m m' first landed_text text before after good lands issued =
    let fine : has_fault (executed_in log) ≡ false = no_fault (c + 16) log before.all_land in
    let zero = issued_in lat memory ops c log row.zero in
    let one = issued_in lat memory ops c log row.one in
    let both : trace_lines (issues memory c log zero one) ≡ row_lines lat m' ops row c =
    flat_map-append event_line (map (issue_of memory c 0 log one) zero) (map (issue_of memory c 1 log zero) one)
    ∙ ap₂ (λ x y. x ++ y) (slot_lines lat memory ops c 0 log m' row.zero row.one after)
    (slot_lines lat memory ops c 1 log m' row.one row.zero after) in
    let all : trace_lines (writes lat memory c (landed c log) (due_at c log) ++ issues memory c log zero one)
    ≡ arrival_lines c (place_value m) (due_now c m.under_way) ++ row_lines lat m' ops row c =
    flat_map-append event_line (writes lat memory c (landed c log) (due_at c log)) (issues memory c log zero one)
    ∙ ap₂ (λ x y. x ++ y) (sym (landing_lines lat memory c log m before good)) both in
    issued
    ∙ ap (λ l. l ++ row_lines lat m' ops row c) lands
    ∙ append_assoc first _ _
    ∙ ap (λ l. first ++ l) (sym all)
    ∙ rw fine refl

-- a fault in either slot
fault_in : (lat : Latencies) (memory : List ℤ) (ops : List Op) (c : ℕ) (log : List Issued) (m : TracedMachine)
    (one zero : Option ℕ) → Follows lat memory (c + 1) log m
    → (slot_faults (in_slot lat m ops c zero) || slot_faults (in_slot lat m ops c one)) ≡ true
    → has_fault (executed_in (issue_all lat memory ops c (option_to_list one ++ option_to_list zero) log)) ≡ true
fault_in lat memory ops c log m one zero follows faults = grind (arith, effect_now, or_cases, or_right)

-- what is issued has landed by no more than before
landed_issues : (lat : Latencies) (memory : List ℤ) (ops : List Op) (c : ℕ) (numbers : List ℕ) (log : List Issued)
    → landed (c + 1) (issue_all lat memory ops c numbers log) ≡ landed (c + 1) log
landed_issues lat memory ops c [] log = refl
landed_issues lat memory ops c (i ∷ numbers) log = grind (arith, landed-later, some_latency, landed_issues lat memory ops c numbers log)

-- one that is issued without a fault
lands_one : (lat : Latencies) (memory : List ℤ) (ops : List Op) (c i : ℕ) (log before : List Issued) (m : TracedMachine)
    → Follows lat memory (c + 1) log m → slot_faults (in_slot lat m ops c (Some i)) ≡ false
    → AllLand (c + 1 + 16) before → AllLand (c + 1 + 16) (issue lat memory c log (op_at ops i) ∷ before)
lands_one lat memory ops c i log before m follows fine all = grind (arith, effect_now, no_fault, results_go, short_latency)

all_lands : (lat : Latencies) (memory : List ℤ) (ops : List Op) (c : ℕ) (log : List Issued) (m : TracedMachine)
    (one zero : Option ℕ) → Follows lat memory (c + 1) log m → slot_faults (in_slot lat m ops c zero) ≡ false
    → slot_faults (in_slot lat m ops c one) ≡ false
    → AllLand (c + 1 + 16) (issue_all lat memory ops c (option_to_list one ++ option_to_list zero) log)
all_lands lat memory ops c log m one zero follows first second = grind (arith, lands_one)

sent_both : (lat : Latencies) (memory : List ℤ) (ops : List Op) (c : ℕ) (log : List Issued) (m : TracedMachine)
    (one zero : Option ℕ) → Follows lat memory (c + 1) log m
    → (m.under_way ++ option_to_list (sent_in (in_slot lat m ops c zero)))
    ++ option_to_list (sent_in (in_slot lat m ops c one))
    ≡ arrivals lat (c + 1) (issue_all lat memory ops c (option_to_list one ++ option_to_list zero) log)
sent_both lat memory ops c log m one zero follows = grind (arith, append-nil, arrivals_one, option_to_list)

-- the run goes on after a row without a fault
follows_on : (lat : Latencies) (memory : List ℤ) (ops : List Op) (row : Row) (c : ℕ) (log : List Issued) (m : TracedMachine)
    → Follows lat memory (c + 1) log m → row_faults lat m ops row c ≡ false
    → Follows lat memory (c + 1) (issue_all lat memory ops c (slots row) log) (sent_from lat m ops row c)
follows_on lat memory ops row c log m follows fine = grind (arith, all_lands, landed_issues, or_parts, sent_both)

pub after_row : (lat : Latencies) (memory : List ℤ) (ops : List Op) (row : Row) (c : ℕ) (log : List Issued)
    (m m' : TracedMachine) (goes_on : Bool) → Follows lat memory (c + 1) log m → m' ≡ sent_from lat m ops row c
    → goes_on ≡ not (row_faults lat m ops row c)
    → After goes_on lat memory (c + 1) (issue_all lat memory ops c (slots row) log) m'
after_row lat memory ops row c log m m' goes_on follows is says = grind (arith, fault_in, follows_on)
