-- What of a log is on its way at a cycle.
use Rattle.iloc_trace.proofs.Common.{◌≡◌, ℕ, ◌+◌, Bool, ◌&&◌, List, [], ◌∷◌, ℤ, if◌then◌else◌, nat_lt, ◌==◌, Some, None, fold, filter, Option, option_map, option_to_list, refl, append-nil, arith, ne_eqb, nat_tests, flat_map-append, filter-append, fold-append, by_bool, Issued, Latencies, Place}
use Rattle.iloc_trace.specs.declared.under_way.Arrival.{Arrival}
use Rattle.iloc_trace.specs.Places.{is_place, goes_to, target}
use Rattle.iloc_trace.specs.Events.{due_at, next_due, sooner}
use Rattle.iloc_trace.specs.Steps.Arrivals.{arrival_of, arrivals, arrivals_of, due_later, due_now, first_for}

-- what goes to a place, if to any
abbrev to_place : ℕ → ℕ → ℤ → Option Place → List Arrival
to_place due issued value target =
    option_to_list (option_map (λ place. record { place = place; value = value; due = due; issued = issued }) target)

-- a test of the cycle at which it is due
test_sent : (test : ℕ → Bool) (due issued : ℕ) (value : ℤ) (to : Option Place)
    → filter (λ (a : Arrival). test a.due) (to_place due issued value to)
    ≡ (if test due then to_place due issued value to else [])
test_sent test due issued value None = by_bool (test due) (λ t. rw t refl) (λ t. rw t refl)
test_sent test due issued value (Some place) = refl

first_sent : (place : Place) (first : Option ℕ) (due issued : ℕ) (value : ℤ) (to : Option Place)
    → fold (first_for place) first (to_place due issued value to)
    ≡ (if is_place place to then Some (sooner due first) else first)
first_sent place first due issued value None = refl
first_sent place first due issued value (Some other) = refl

-- what is due now is that of the log
due_piece : (lat : Latencies) (c : ℕ) (e : Issued)
    → due_now c (if nat_lt e.due c then [] else option_to_list (arrival_of lat e))
    ≡ arrivals_of lat (if e.due == c then e ∷ [] else [])
due_piece lat c e = grind (arith, append-nil, nat_tests, ne_eqb, test_sent)

pub due_now_of_log : (lat : Latencies) (c : ℕ) (log : List Issued)
    → due_now c (arrivals lat c log) ≡ arrivals_of lat (due_at c log)
due_now_of_log lat c [] = refl
due_now_of_log lat c (e ∷ earlier) = grind (arith, due_piece, filter-append, flat_map-append, option_to_list, due_now_of_log lat c earlier)

-- what is due later is on its way at the next cycle
later_piece : (lat : Latencies) (c : ℕ) (e : Issued)
    → due_later c (if nat_lt e.due c then [] else option_to_list (arrival_of lat e))
    ≡ (if nat_lt e.due (c + 1) then [] else option_to_list (arrival_of lat e))
later_piece lat c e = grind (arith, nat_tests, test_sent)

pub due_later_of_log : (lat : Latencies) (c : ℕ) (log : List Issued)
    → due_later c (arrivals lat c log) ≡ arrivals lat (c + 1) log
due_later_of_log lat c [] = refl
due_later_of_log lat c (e ∷ earlier) = grind (arith, filter-append, later_piece, option_to_list, due_later_of_log lat c earlier)

-- the first of it for a place is that of the log
first_piece : (lat : Latencies) (c : ℕ) (place : Place) (e : Issued) (first : Option ℕ)
    → fold (first_for place) first (if nat_lt e.due (c + 1) then [] else option_to_list (arrival_of lat e))
    ≡ (if nat_lt c e.due && goes_to place e.executed then Some (sooner e.due first) else first)
first_piece lat c place e first = grind (arith, first_sent, nat_tests)

pub next_due_of_log : (lat : Latencies) (c : ℕ) (place : Place) (log : List Issued)
    → fold (first_for place) None (arrivals lat (c + 1) log) ≡ next_due c place log
next_due_of_log lat c place [] = refl
next_due_of_log lat c place (e ∷ earlier) = grind (arith, first_piece, fold-append, option_to_list, next_due_of_log lat c place earlier)
