-- What a schedule does on the timed machine. A log has what was issued so far with the cycle at which it arrives,
-- the latest first: of one row unit 1 before unit 0.
use Rattle.std.specs.Prelude.{ℕ, zero, suc, ◌+◌, nat_le, nat_lt, Bool, if◌then◌else◌, List, [], ◌∷◌, ◌++◌, length, map, filter, Option, Some, None, option_map, ℤ}
use Rattle.iloc_ops.specs.declared.op.Reg.{Reg}
use Rattle.iloc_ops.specs.declared.op.Op.{Op}
use Rattle.iloc_meaning.specs.declared.outcome.Outcome.{Outcome}
use Rattle.iloc_meaning.specs.declared.outcome.Outcome.TheVariants.{Finished, Fault}
use Rattle.iloc_meaning.specs.Memory.{word_at, with_words}
use Rattle.iloc_meaning.specs.Effect.{effect}
use Rattle.iloc_meaning.specs.Trace.{Executed, defines, writes_to, result_or_zero, written_or, op_at}
use Rattle.iloc_meaning.specs.Outcome.{has_fault, emitted}
use Rattle.iloc_timed.specs.declared.latencies.Latencies.{Latencies}
use Rattle.iloc_timed.specs.declared.row.Row.{Row}
use Rattle.iloc_timed.specs.Latency.{latency}
use Rattle.iloc_timed.specs.Rows.{row_at, slots}

-- something that was executed, with the cycle at whose start its result is written
pub record Issued : Type 0 where
  pub due : ℕ
  pub executed : Executed

-- what has arrived at the start of cycle c
abbrev pub arrived : ℕ → List Issued → List Issued
arrived c log = filter (λ e. nat_le e.due c) log

abbrev pub later : Issued → Option Issued → Issued
later e None = e
later e (Some f) = if nat_lt e.due f.due then f else e

-- the last in order of due cycle, then of issue
abbrev pub last_due : List Issued → Option Issued
last_due [] = None
last_due (e ∷ earlier) = Some (later e (last_due earlier))

-- the last in that order that passes the test
abbrev pub last_that : (Executed → Bool) → List Issued → Option Executed
last_that test log = option_map (λ (e : Issued). e.executed) (last_due (filter (λ e. test e.executed) log))

-- the value of register r: the last result for it, else 0
abbrev pub register_in : List Issued → Reg → ℤ
register_in log r = result_or_zero (last_that (defines r) log)

-- the word at address a: the last that was stored there, else that of the memory handed in
abbrev pub word_in : List ℤ → List Issued → ℕ → ℤ
word_in memory log a = written_or (word_at memory a) (last_that (writes_to a) log)

-- the operation, issued at cycle c: it reads what has arrived
abbrev pub issue : Latencies → List ℤ → ℕ → List Issued → Op → Issued
issue lat memory c log op = record {
  due = c + latency lat op;
  executed = record { op = op; effect = effect op (register_in (arrived c log)) (word_in memory (arrived c log)) };
}

-- `log` with the operations of `numbers`, issued at cycle `c`
abbrev pub issue_all : Latencies → List ℤ → List Op → ℕ → List ℕ → List Issued → List Issued
issue_all lat memory ops c numbers log = map (λ i. issue lat memory c log (op_at ops i)) numbers ++ log

-- what was issued before cycle c
abbrev pub issued_before : Latencies → List ℤ → List Op → List Row → ℕ → List Issued
issued_before lat memory ops rows zero = []
issued_before lat memory ops rows (suc c) =
    issue_all lat memory ops c (slots (row_at rows c)) (issued_before lat memory ops rows c)

-- what was executed, without the cycles
abbrev pub executed_in : List Issued → List Executed
executed_in log = map (λ (e : Issued). e.executed) log

-- what comes of a log, once everything has arrived, that started on this memory
abbrev pub timed_outcome_of : List ℤ → List Issued → Outcome
timed_outcome_of memory log =
    if has_fault (executed_in log) then Fault
    else Finished (emitted (executed_in log)) (with_words memory (word_in memory log))

-- what comes of a schedule
abbrev pub timed_outcome : Latencies → List Op → List Row → List ℤ → Outcome
timed_outcome lat ops rows memory = timed_outcome_of memory (issued_before lat memory ops rows (length rows))
