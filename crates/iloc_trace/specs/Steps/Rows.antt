-- A schedule in mid-run against the log of what it has issued.
use Rattle.std.specs.Prelude.{ℕ, ◌+◌, ◌≡◌, Bool, true, false, List, [], ◌++◌, fold, map, Option, Some, None, option_map, option_to_list, IsTrue, ◌||◌, ℤ, pos}
use Rattle.iloc_ops.specs.declared.op.Reg.{Reg}
use Rattle.iloc_ops.specs.declared.op.Op.{Op}
use Rattle.iloc_meaning.specs.Address.{is_good}
use Rattle.iloc_meaning.specs.Memory.{word_at}
use Rattle.iloc_meaning.specs.Registers.{value_of}
use Rattle.iloc_meaning.specs.Effect.{effect}
use Rattle.iloc_meaning.specs.Trace.{op_at}
use Rattle.iloc_meaning.specs.Outcome.{is_fault, has_fault}
use Rattle.iloc_timed.specs.declared.latencies.Latencies.{Latencies}
use Rattle.iloc_timed.specs.declared.row.Row.{Row}
use Rattle.iloc_timed.specs.Latency.{latency}
use Rattle.iloc_timed.specs.Limits.{LONGEST_LATENCY}
use Rattle.iloc_timed.specs.Timed.{Issued, register_in, word_in, executed_in}
use Rattle.iloc_timed.specs.Steps.Machine.{landed, AllLand}
use Rattle.iloc_trace.specs.declared.event.Place.{Place}
use Rattle.iloc_trace.specs.declared.event.Read.{Read}
use Rattle.iloc_trace.specs.declared.under_way.Arrival.{Arrival}
use Rattle.iloc_trace.specs.declared.machine.TracedMachine.{TracedMachine}
use Rattle.iloc_trace.specs.declared.machine.Executed.{Executed}
use Rattle.iloc_trace.specs.Places.{value_at, places_read}
use Rattle.iloc_trace.specs.Listing.{issue_line}
use Rattle.iloc_trace.specs.Steps.Arrivals.{arrivals, first_for, sent_by}

-- what is in a place of the machine
abbrev pub place_value : TracedMachine → Place → ℤ
place_value m place = value_at (value_of m.registers) (word_at m.memory.words) place

-- what is read there, while this is on its way
abbrev pub read_at : TracedMachine → List Arrival → Place → Read
read_at m coming place = record {
  place = place;
  value = place_value m place;
  until = fold (first_for place) None coming;
}

-- what an operation reads, while this is on its way
abbrev pub reads_of : TracedMachine → List Arrival → Op → List Read
reads_of m coming op = map (read_at m coming) (places_read op (value_of m.registers))

-- an operation that is issued at a cycle
abbrev pub executed_at : Latencies → TracedMachine → ℕ → Op → Executed
executed_at lat m c op = record {
  op = op;
  effect = effect op (value_of m.registers) (word_at m.memory.words);
  cycle = c;
  sent = sent_by (c + latency lat op) c op (effect op (value_of m.registers) (word_at m.memory.words));
}

-- what is sent in a slot
abbrev pub sent_in : Option Executed → Option Arrival
sent_in None = None
sent_in (Some e) = e.sent

-- the line of a slot, while this was sent in the other one
abbrev pub slot_line : TracedMachine → ℕ → Option Executed → Option Executed → List ℕ
slot_line m unit None beside = []
slot_line m unit (Some e) beside = issue_line (record {
  cycle = e.cycle;
  unit = unit;
  op = e.op;
  reads = reads_of m (m.under_way ++ option_to_list (sent_in beside)) e.op;
  faults = is_fault e.effect;
})

-- what is executed in a slot
abbrev pub in_slot : Latencies → TracedMachine → List Op → ℕ → Option ℕ → Option Executed
in_slot lat m ops c slot = option_map (λ i. executed_at lat m c (op_at ops i)) slot

-- the lines of both
abbrev pub row_lines : Latencies → TracedMachine → List Op → Row → ℕ → List ℕ
row_lines lat m ops row c =
    slot_line m 0 (in_slot lat m ops c row.zero) (in_slot lat m ops c row.one)
    ++ slot_line m 1 (in_slot lat m ops c row.one) (in_slot lat m ops c row.zero)

-- the machine with what was sent in a slot
abbrev pub sent_after : TracedMachine → Option Executed → TracedMachine
sent_after m slot = record m { under_way = m.under_way ++ option_to_list (sent_in slot) }

-- and in both
abbrev pub sent_from : Latencies → TracedMachine → List Op → Row → ℕ → TracedMachine
sent_from lat m ops row c =
    sent_after (sent_after m (in_slot lat m ops c row.zero)) (in_slot lat m ops c row.one)

-- whether there is a fault in a slot, and in either one
abbrev pub slot_faults : Option Executed → Bool
slot_faults None = false
slot_faults (Some e) = is_fault e.effect

abbrev pub row_faults : Latencies → TracedMachine → List Op → Row → ℕ → Bool
row_faults lat m ops row c =
    slot_faults (in_slot lat m ops c row.zero) || slot_faults (in_slot lat m ops c row.one)

-- what is due before cycle c has arrived, and the rest is under way
pub record Follows (lat : Latencies) (memory : List ℤ) (c : ℕ) (log : List Issued) (machine : TracedMachine) : Type 0 where
  pub registers : (r : Reg) → value_of machine.registers r ≡ register_in (landed c log) r
  pub words : (a : ℕ) → IsTrue (is_good (pos a)) → word_at machine.memory.words a ≡ word_in memory (landed c log) a
  pub under_way : machine.under_way ≡ arrivals lat c log
  pub all_land : AllLand (c + LONGEST_LATENCY) log

-- after a row: the run goes on, or there was a fault
abbrev pub After : Bool → Latencies → List ℤ → ℕ → List Issued → TracedMachine → Type 0
After true lat memory c log machine = Follows lat memory c log machine
After false lat memory c log machine = has_fault (executed_in log) ≡ true
