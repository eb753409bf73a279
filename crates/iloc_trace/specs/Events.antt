-- What happens on the timed machine, cycle by cycle.
use Rattle.std.specs.Prelude.{ℕ, ◌+◌, ◌-◌, ◌==◌, ◌&&◌, nat_lt, min, Bool, if◌then◌else◌, List, [], ◌∷◌, ◌++◌, length, map, filter, Option, Some, None, option_to_list, ℤ}
use Rattle.std.specs.List.{flat_map, range_with_len}
use Rattle.iloc_ops.specs.declared.op.Op.{Op}
use Rattle.iloc_meaning.specs.Trace.{op_at}
use Rattle.iloc_meaning.specs.Outcome.{is_fault, has_fault}
use Rattle.iloc_timed.specs.declared.latencies.Latencies.{Latencies}
use Rattle.iloc_timed.specs.declared.row.Row.{Row}
use Rattle.iloc_timed.specs.Limits.{LONGEST_LATENCY}
use Rattle.iloc_timed.specs.Latency.{latency}
use Rattle.iloc_timed.specs.Rows.{row_at}
use Rattle.iloc_timed.specs.Timed.{Issued, arrived, issue, issued_before, executed_in, register_in}
use Rattle.iloc_trace.specs.declared.event.Place.{Place}
use Rattle.iloc_trace.specs.declared.event.Read.{Read}
use Rattle.iloc_trace.specs.declared.event.Write.{Write}
use Rattle.iloc_trace.specs.Places.{value_in, places_read, target, sent, goes_to}

-- an operation is issued
pub record Issue : Type 0 where
  pub cycle : ℕ
  pub unit : ℕ
  pub op : Op
  pub reads : List Read
  pub faults : Bool

pub data Event : Type 0 where
  arrives : Write → Event
  is_issued : Issue → Event

-- what was due before cycle c
abbrev pub landed : ℕ → List Issued → List Issued
landed c log = filter (λ e. nat_lt e.due c) log

-- what is due at cycle c, in order of issue
abbrev pub due_at : ℕ → List Issued → List Issued
due_at c [] = []
due_at c (e ∷ earlier) = due_at c earlier ++ (if e.due == c then e ∷ [] else [])

-- a result arrives, where this was there before
abbrev pub write_of : Latencies → List ℤ → ℕ → List Issued → Issued → Place → Event
write_of lat memory c there e place = arrives (record {
  cycle = c;
  place = place;
  value = sent e.executed.effect;
  was = value_in memory there place;
  issued = c - latency lat e.executed.op;
})

-- results arrive one after the other
abbrev pub writes : Latencies → List ℤ → ℕ → List Issued → List Issued → List Event
writes lat memory c there [] = []
writes lat memory c there (e ∷ due) =
    map (write_of lat memory c there e) (option_to_list (target e.executed)) ++ writes lat memory c (e ∷ there) due

-- the earlier of two cycles, if there are any
abbrev pub sooner : ℕ → Option ℕ → ℕ
sooner due None = due
sooner due (Some other) = min due other

-- when the next of the results for `place` in the list is due, after cycle `c`
abbrev pub next_due : ℕ → Place → List Issued → Option ℕ
next_due c place [] = None
next_due c place (e ∷ earlier) =
    if nat_lt c e.due && goes_to place e.executed then Some (sooner e.due (next_due c place earlier))
    else next_due c place earlier

-- a read at cycle c, after this was issued
abbrev pub read_of : List ℤ → ℕ → List Issued → Place → Read
read_of memory c log place = record {
  place = place;
  value = value_in memory (arrived c log) place;
  until = next_due c place log;
}

-- The operation on a unit is issued, after this was, and beside what is on the other unit: that comes too late to be read, but is under
-- way.
abbrev pub issue_of : List ℤ → ℕ → ℕ → List Issued → List Issued → Issued → Event
issue_of memory c unit log beside e = is_issued (record {
  cycle = c;
  unit = unit;
  op = e.executed.op;
  reads = map (read_of memory c (beside ++ log)) (places_read e.executed.op (register_in (arrived c log)));
  faults = is_fault e.executed.effect;
})

-- what is issued in a slot
abbrev pub in_slot : Latencies → List ℤ → List Op → ℕ → List Issued → Option ℕ → List Issued
in_slot lat memory ops c log slot = map (λ i. issue lat memory c log (op_at ops i)) (option_to_list slot)

-- both operations of a row are issued
abbrev pub issues : List ℤ → ℕ → List Issued → List Issued → List Issued → List Event
issues memory c log zero one =
    map (issue_of memory c 0 log one) zero ++ map (issue_of memory c 1 log zero) one

-- what happens at cycle c, after this was issued: nothing after a fault
abbrev pub events_after : Latencies → List ℤ → List Op → Row → ℕ → List Issued → List Event
events_after lat memory ops row c log =
    if has_fault (executed_in log) then []
    else writes lat memory c (landed c log) (due_at c log)
    ++ issues memory c log (in_slot lat memory ops c log row.zero) (in_slot lat memory ops c log row.one)

abbrev pub events_at : Latencies → List ℤ → List Op → List Row → ℕ → List Event
events_at lat memory ops rows c =
    events_after lat memory ops (row_at rows c) c (issued_before lat memory ops rows c)

-- all that happens, until everything has arrived
abbrev pub events : Latencies → List ℤ → List Op → List Row → List Event
events lat memory ops rows =
    flat_map (events_at lat memory ops rows) (range_with_len 0 (length rows + LONGEST_LATENCY))
