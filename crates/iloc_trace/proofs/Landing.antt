-- What is due at a cycle arrives.
use Rattle.iloc_trace.proofs.Common.{◌≡◌, ℕ, ◌+◌, ◌-◌, ◌<◌, Bool, false, List, [], ◌∷◌, ◌++◌, map, ℤ, pos, IfSome, if◌then◌else◌, IsTrue, ◌==◌, Some, None, fold, filter, Option, option_map, option_to_list, sym, refl, ap, ◌∙◌, subst, ap₂, append-nil, arith, eqb-true, ltb-true, flat_map-append, All-filter, All-head, All-tail, fold-append, All, defined, Reg, by_bool, is_good, word_at, is_fault, value_of, Executed, defines, is_register, is_write_to, result_of, result_or_zero, writes_to, written_by, written_or, Effect, Faults, Gives, latency, AllLand, Lands, landed_in_register, landed_in_word, sent_by as pending_by, due_at as pending_at, Issued, last_due, last_that, register_in, word_in, Latencies, trace_lines, write_line, Place, Register, Word}
use Rattle.iloc_timed.specs.declared.wheel.Pending.{Pending}
use Rattle.iloc_timed.proofs.Landing.{register_more, word_more, later_below, later_newest}
use Rattle.iloc_timed.proofs.Following.{all_land_later}
use Rattle.iloc_trace.specs.declared.under_way.Arrival.{Arrival}
use Rattle.iloc_trace.specs.declared.machine.TracedMachine.{TracedMachine}
use Rattle.iloc_trace.specs.Places.{is_place, is_same, sent, target, target_of, value_in, goes_to}
use Rattle.iloc_trace.specs.Events.{Event, due_at, landed, write_of, writes}
use Rattle.iloc_trace.specs.Steps.Arrivals.{CanArrive, IsGood, arrival_line, arrival_lines, arrivals_of, arrived_in, due_later, due_now}
use Rattle.iloc_trace.specs.Steps.Rows.{Follows, place_value}
use Rattle.iloc_trace.proofs.OnTheirWay.{due_now_of_log, due_later_of_log}
use Rattle.iloc_meaning.specs.Results.{GoesTo}

-- What is in a place of a log after one result more.
last_below : (test : Executed → Bool) (n : ℕ) (log : List Issued) → AllLand n log
    → IfSome (last_due (filter (λ e. test e.executed) log)) (λ e. e.due < n)
last_below test n [] all = tt
last_below test n (e ∷ earlier) all = grind (arith, later_below, last_below test n earlier all.2)

-- the last one is the newest, if that passes the test and none is due later
last_newest : (test : Executed → Bool) (e : Issued) (earlier : List Issued) → AllLand (e.due + 1) earlier
    → last_that test (e ∷ earlier) ≡ (if test e.executed then Some e.executed else last_that test earlier)
last_newest test e earlier all = by_bool (test e.executed)
    (λ passes. rw passes (ap (λ (f : Issued). Some f.executed)
    (later_newest e _ (last_below test (e.due + 1) earlier all))))
    (λ fails. rw fails refl)

register_case : (r : Reg) (d : Option Reg) (effect : Effect) (v : ℤ) → is_fault effect ≡ false → GoesTo d effect
    → (if is_register r d then result_of effect else v)
    ≡ (if is_place (Register r) (target_of d effect) then sent effect else v)
register_case r None (Gives result) v fault goes = absurd goes
register_case r None _ v fault goes = refl
register_case r (Some s) Faults v fault goes = absurd cc
register_case r (Some s) (Gives result) v fault goes = refl
register_case r (Some s) _ v fault goes = absurd goes

word_case : (a : ℕ) (d : Option Reg) (effect : Effect) (v : ℤ)
    → (if is_write_to a effect then written_by effect else v)
    ≡ (if is_place (Word a) (target_of d effect) then sent effect else v)
word_case a None (Gives result) v = refl
word_case a _ Faults v = refl
word_case a _ _ v = refl

-- a place has what the newest sent there, or else what was there
value_then : (memory : List ℤ) (e : Issued) (earlier : List Issued) (place : Place) → Lands e.executed
    → AllLand (e.due + 1) earlier → value_in memory (e ∷ earlier) place
    ≡ (if goes_to place e.executed then sent e.executed.effect else value_in memory earlier place)
value_then memory e earlier (Register r) ok all =
    ap result_or_zero (last_newest (defines r) e earlier all)
    ∙ by_bool (defines r e.executed) (λ t. rw t refl) (λ t. rw t refl)
    ∙ register_case r (defined e.executed.op) e.executed.effect (register_in earlier r) ok.no_fault ok.goes
value_then memory e earlier (Word a) ok all =
    ap (written_or (word_at memory a)) (last_newest (writes_to a) e earlier all)
    ∙ by_bool (writes_to a e.executed) (λ t. rw t refl) (λ t. rw t refl)
    ∙ word_case a (defined e.executed.op) e.executed.effect (word_in memory earlier a)

-- what an effect sends changes a register as it does on the timed machine, and a word
abbrev AreLanded : Place → (ℤ → Pending → ℤ) → Type 0
AreLanded place landed = (due issued : ℕ) (d : Option Reg) (effect : Effect) (v : ℤ)
    → fold (arrived_in place) v (option_to_list (option_map
    (λ to. record { place = to; value = sent effect; due = due; issued = issued }) (target_of d effect)))
    ≡ fold landed v (option_to_list (pending_by d effect))

register_lands : (r : Reg) → AreLanded (Register r) (landed_in_register r)
register_lands r due issued None (Gives result) v = refl
register_lands r due issued _ Faults v = refl
register_lands r due issued _ _ v = refl

word_lands : (a : ℕ) → AreLanded (Word a) (landed_in_word a)
word_lands a due issued None (Gives result) v = refl
word_lands a due issued _ Faults v = refl
word_lands a due issued _ _ v = refl

-- so does all that is due
all_land : (lat : Latencies) (c : ℕ) (place : Place) (landed : ℤ → Pending → ℤ) → AreLanded place landed → (v : ℤ)
    (log : List Issued)
    → fold (arrived_in place) v (arrivals_of lat (due_at c log)) ≡ fold landed v (pending_at c log)
all_land lat c place landed lands v [] = refl
all_land lat c place landed lands v (e ∷ earlier) =
    grind (arith, append-nil, flat_map-append, fold-append, option_to_list, all_land lat c place landed lands v earlier)

-- what is due at cycle c has arrived
pub after_landing : (lat : Latencies) (memory : List ℤ) (c : ℕ) (log : List Issued) (m m' : TracedMachine)
    → Follows lat memory c log m
    → ((r : Reg) → value_of m'.registers r
    ≡ fold (arrived_in (Register r)) (value_of m.registers r) (due_now c m.under_way))
    → ((a : ℕ) → IsTrue (is_good (pos a)) → word_at m'.memory.words a
    ≡ fold (arrived_in (Word a)) (word_at m.memory.words a) (due_now c m.under_way))
    → m'.under_way ≡ due_later c m.under_way → Follows lat memory (c + 1) log m'
after_landing lat memory c log m m' follows register word under_way =
    grind (
      arith,
      all_land,
      all_land_later,
      due_later_of_log,
      due_now_of_log,
      register_lands,
      register_more,
      word_lands,
      word_more,
    )

-- each is due at cycle c
abbrev AllAt : ℕ → List Issued → Type 0
AllAt c [] = Unit {0}
AllAt c (e ∷ more) = (e.due ≡ c) × Lands e.executed × AllAt c more

all_at_append : (c : ℕ) (first second : List Issued) → AllAt c first → AllAt c second → AllAt c (first ++ second)
all_at_append c [] second all rest = rest
all_at_append c (e ∷ first) second all rest = (all.0, all.1, all_at_append c first second all.2 rest)

due_all_at : (n c : ℕ) (log : List Issued) → AllLand n log → AllAt c (due_at c log)
due_all_at n c [] all = tt
due_all_at n c (e ∷ earlier) all = grind (arith, all_at_append, eqb-true, due_all_at n c earlier all.2)

landed_below : (n c : ℕ) (log : List Issued) → AllLand n log → AllLand c (landed c log)
landed_below n c [] all = tt
landed_below n c (e ∷ earlier) all = grind (arith, ltb-true, landed_below n c earlier all.2)

-- the line of a result, if there is one, and those of the next ones
written_step : (lat : Latencies) (memory : List ℤ) (c : ℕ) (there : List Issued) (e : Issued) (to : Option Place)
    (value : Place → ℤ) (rest : List Event) (more : List Arrival) → e.due ≡ c
    → ((place : Place) → value_in memory (e ∷ there) place
    ≡ (if is_place place to then sent e.executed.effect else value_in memory there place))
    → ((place : Place) → IsGood place → value place ≡ value_in memory there place)
    → All CanArrive (option_to_list (option_map (λ place. record {
      place = place;
      value = sent e.executed.effect;
      due = e.due;
      issued = e.due - latency lat e.executed.op;
    }) to) ++ more)
    → ((next : Place → ℤ) → ((place : Place) → IsGood place → next place ≡ value_in memory (e ∷ there) place)
    → All CanArrive more → trace_lines rest ≡ arrival_lines c next more)
    → trace_lines (map (write_of lat memory c there e) (option_to_list to) ++ rest)
    ≡ arrival_lines c value (option_to_list (option_map (λ place. record {
      place = place;
      value = sent e.executed.effect;
      due = e.due;
      issued = e.due - latency lat e.executed.op;
    }) to) ++ more)
written_step lat memory c there e None value rest more due newest same good next =
    next value (λ place fine. same place fine ∙ sym (newest place)) good
written_step lat memory c there e (Some to) value rest more due newest same good next =
    let a : Arrival = record {
      place = to;
      value = sent e.executed.effect;
      due = e.due;
      issued = e.due - latency lat e.executed.op;
    } in
    let fine : IsGood to = All-head CanArrive a more good in
    let was : value_in memory there to ≡ value to = sym (same to fine) in
    let issued : c - latency lat e.executed.op ≡ e.due - latency lat e.executed.op =
    ap (λ d. d - latency lat e.executed.op) (sym due) in
    let others : trace_lines rest ≡ arrival_lines c (λ place. arrived_in place (value place) a) more =
    next (λ place. arrived_in place (value place) a) (λ place there_good.
    ap (λ v. if is_same place to then sent e.executed.effect else v) (same place there_good) ∙ sym (newest place))
    (All-tail CanArrive a more good) in
    ap₂ (λ w i. write_line (record { cycle = c; place = to; value = sent e.executed.effect; was = w; issued = i }) ++ trace_lines rest)
    was issued
    ∙ ap (λ l. arrival_line c a (value to) ++ l) others

written : (lat : Latencies) (memory : List ℤ) (c : ℕ) (there due : List Issued) (value : Place → ℤ) → AllAt c due
    → AllLand (c + 1) there → ((place : Place) → IsGood place → value place ≡ value_in memory there place)
    → All CanArrive (arrivals_of lat due)
    → trace_lines (writes lat memory c there due) ≡ arrival_lines c value (arrivals_of lat due)
written lat memory c there [] value at below same good = refl
written lat memory c there (e ∷ due) value at below same good =
    let bound : e.due < c + 1 = omega (arith, at.0) in
    let earlier : AllLand (e.due + 1) there = subst (λ n. AllLand (n + 1) there) (sym at.0) below in
    written_step lat memory c there e (target e.executed) value (writes lat memory c (e ∷ there) due)
    (arrivals_of lat due) at.0 (λ place. value_then memory e there place at.1 earlier) same good
    (λ next there_same rest_good. written lat memory c (e ∷ there) due next at.2 (bound, at.1, below) there_same rest_good)

value_shown : (lat : Latencies) (memory : List ℤ) (c : ℕ) (log : List Issued) (m : TracedMachine) → Follows lat memory c log m
    → (place : Place) → IsGood place → place_value m place ≡ value_in memory (landed c log) place
value_shown lat memory c log m follows (Register r) good = follows.registers r
value_shown lat memory c log m follows (Word a) good = follows.words a good

-- the lines of what is due at cycle c
pub landing_lines : (lat : Latencies) (memory : List ℤ) (c : ℕ) (log : List Issued) (m : TracedMachine)
    → Follows lat memory c log m → All CanArrive m.under_way
    → arrival_lines c (place_value m) (due_now c m.under_way)
    ≡ trace_lines (writes lat memory c (landed c log) (due_at c log))
landing_lines lat memory c log m follows good =
    let due : due_now c m.under_way ≡ arrivals_of lat (due_at c log) =
    ap (due_now c) follows.under_way ∙ due_now_of_log lat c log in
    let can : All CanArrive (arrivals_of lat (due_at c log)) =
    subst (All CanArrive) due (All-filter (λ (a : Arrival). a.due == c) CanArrive m.under_way good) in
    ap (arrival_lines c (place_value m)) due
    ∙ sym (written lat memory c (landed c log) (due_at c log) (place_value m)
    (due_all_at (c + 16) c log follows.all_land)
    (all_land_later c (c + 1) (landed c log) (omega arith) (landed_below (c + 16) c log follows.all_land))
    (value_shown lat memory c log m follows) can)
