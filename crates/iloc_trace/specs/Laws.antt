-- What holds of every trace.
use Rattle.std.specs.Prelude.{◌≡◌, List, [], map, Some, None, ℤ}
use Rattle.std.specs.List.{All, flat_map}
use Rattle.iloc_ops.specs.declared.op.Op.{Op}
use Rattle.iloc_ops.specs.declared.op.Op.TheVariants.{Output}
use Rattle.iloc_meaning.specs.Outcome.{shown}
use Rattle.iloc_timed.specs.declared.latencies.Latencies.{Latencies}
use Rattle.iloc_timed.specs.declared.row.Row.{Row}
use Rattle.iloc_timed.specs.Timed.{timed_outcome}
use Rattle.iloc_rules.specs.Lawful.{IsLawful}
use Rattle.iloc_trace.specs.declared.event.Read.{Read}
use Rattle.iloc_trace.specs.Events.{Event, arrives, is_issued, events}

-- what an operation reads, if it is an `output`
abbrev pub words_of : Op → List Read → List ℤ
words_of (Output addr) reads = map (λ it. it.value) reads
words_of _ reads = []

abbrev pub emitted_by : Event → List ℤ
emitted_by (arrives it) = []
emitted_by (is_issued it) = words_of it.op it.reads

-- the outputs of a trace without a fault are the ones of the outcome
abbrev pub TracesEmitTheOutcome : Type 0
TracesEmitTheOutcome = (lat : Latencies) (memory : List ℤ) (ops : List Op) (rows : List Row) (words : List ℤ)
    → shown (timed_outcome lat ops rows memory) ≡ Some words → flat_map emitted_by (events lat memory ops rows) ≡ words

abbrev pub IsOnTime : Read → Type 0
IsOnTime it = it.until ≡ None

abbrev pub ReadsOnTime : Event → Type 0
ReadsOnTime (arrives it) = Unit {0}
ReadsOnTime (is_issued it) = All IsOnTime it.reads

-- a lawful schedule reads nothing for which a result is under way
abbrev pub LawfulSchedulesReadOnTime : Type 0
LawfulSchedulesReadOnTime = (lat : Latencies) (memory : List ℤ) (block ops : List Op) (rows : List Row)
    → IsLawful lat block ops rows → All ReadsOnTime (events lat memory ops rows)
