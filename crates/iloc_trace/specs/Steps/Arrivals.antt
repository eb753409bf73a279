-- Results on their way to where they are written, in order of issue.
use Rattle.std.specs.Prelude.{ℕ, ◌-◌, ◌==◌, nat_lt, if◌then◌else◌, List, [], ◌∷◌, ◌++◌, filter, Option, Some, option_map, option_to_list, IsTrue, ℤ, pos}
use Rattle.std.specs.List.{flat_map}
use Rattle.iloc_ops.specs.declared.op.Op.{Op}
use Rattle.iloc_ops.specs.Registers.{defined}
use Rattle.iloc_meaning.specs.declared.effect.Effect.{Effect}
use Rattle.iloc_meaning.specs.Address.{is_good}
use Rattle.iloc_timed.specs.declared.latencies.Latencies.{Latencies}
use Rattle.iloc_timed.specs.Latency.{latency}
use Rattle.iloc_timed.specs.Timed.{Issued}
use Rattle.iloc_trace.specs.declared.event.Place.{Place}
use Rattle.iloc_trace.specs.declared.event.Place.TheVariants.{Register, Word}
use Rattle.iloc_trace.specs.declared.under_way.Arrival.{Arrival}
use Rattle.iloc_trace.specs.Places.{is_same, target_of, sent}
use Rattle.iloc_trace.specs.Listing.{write_line}
use Rattle.iloc_trace.specs.Events.{sooner}

-- a register, or a word at a good address
abbrev pub IsGood : Place → Type 0
IsGood (Register r) = Unit {0}
IsGood (Word a) = IsTrue (is_good (pos a))

abbrev pub CanArrive : Arrival → Type 0
CanArrive a = IsGood a.place

-- what an operation that is issued at a cycle sends by its effect, which is due at another
abbrev pub sent_by : ℕ → ℕ → Op → Effect → Option Arrival
sent_by due issued op effect = option_map
    (λ place. record { place = place; value = sent effect; due = due; issued = issued })
    (target_of (defined op) effect)

abbrev pub arrival_of : Latencies → Issued → Option Arrival
arrival_of lat e = sent_by e.due (e.due - latency lat e.executed.op) e.executed.op e.executed.effect

-- what is due from cycle c on
abbrev pub arrivals : Latencies → ℕ → List Issued → List Arrival
arrivals lat c [] = []
arrivals lat c (e ∷ earlier) =
    arrivals lat c earlier ++ (if nat_lt e.due c then [] else option_to_list (arrival_of lat e))

-- what the results of `issued` send
abbrev pub arrivals_of : Latencies → List Issued → List Arrival
arrivals_of lat issued = flat_map (λ e. option_to_list (arrival_of lat e)) issued

-- what is in the place, once the result has arrived
abbrev pub arrived_in : Place → ℤ → Arrival → ℤ
arrived_in place old a = if is_same place a.place then a.value else old

-- the line of a result that arrives at a cycle, where this was there
abbrev pub arrival_line : ℕ → Arrival → ℤ → List ℕ
arrival_line c a was =
    write_line (record { cycle = c; place = a.place; value = a.value; was = was; issued = a.issued })

-- results arrive one after the other, with `value` as what the places hold
abbrev pub arrival_lines : ℕ → (Place → ℤ) → List Arrival → List ℕ
arrival_lines c value [] = []
arrival_lines c value (a ∷ due) =
    arrival_line c a (value a.place) ++ arrival_lines c (λ place. arrived_in place (value place) a) due

-- what of it is due at this cycle, and what later
abbrev pub due_now : ℕ → List Arrival → List Arrival
due_now c coming = filter (λ a. a.due == c) coming

abbrev pub due_later : ℕ → List Arrival → List Arrival
due_later c coming = filter (λ a. nat_lt c a.due) coming

-- when the first of what is on its way to the place is due, if this one is looked at too
abbrev pub first_for : Place → Option ℕ → Arrival → Option ℕ
first_for place first a = if is_same place a.place then Some (sooner a.due first) else first
