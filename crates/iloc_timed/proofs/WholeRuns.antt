-- Rows, and the run of a schedule from its start to its end.
use Rattle.std.proofs.Common.{◌≡◌, ◌<◌, ◌≤◌, ℕ, zero, suc, ◌+◌, ◌*◌, ◌/◌, Bool, true, false, List, [], ◌∷◌, ◌++◌, length, get_or, map, Option, Some, option_to_list, Result, Ok, Err, IfOk, IfSome, ℤ, pos, arith, refl, sym, ap, ap₂, ◌∙◌, add-one, add-zero, add-suc, subst}
use Rattle.std.proofs.lemmas.Bool.{or_right, or_from, lt-leb}
use Rattle.std.proofs.lemmas.List.{get_or_append_left, get_or_default, get_or-map, get_or_push, length_push}
use Rattle.std.proofs.lemmas.List.FromFn.{fill_by_all}
use Rattle.iloc_ops.specs.declared.op.Reg.{Reg}
use Rattle.iloc_ops.specs.declared.op.Op.{Op}
use Rattle.iloc_ops.specs.declared.op.Op.TheVariants.{Nop}
use Rattle.iloc_meaning.specs.declared.outcome.Outcome.TheVariants.{Finished, Fault}
use Rattle.iloc_meaning.specs.Memory.{WORDS, with_words}
use Rattle.iloc_meaning.specs.Registers.{value_of}
use Rattle.iloc_meaning.proofs.MemoryWords.{good_word}
use Rattle.iloc_meaning.specs.Trace.{op_at}
use Rattle.iloc_meaning.specs.Outcome.{has_fault, shown}
use Rattle.iloc_meaning.specs.MachineState.{leaves}
use Rattle.iloc_timed.specs.declared.kind.Kind.{Kind}
use Rattle.iloc_timed.specs.declared.latencies.Latencies.{Latencies}
use Rattle.iloc_timed.specs.declared.row.Row.{Row}
use Rattle.iloc_timed.specs.declared.machine.Machine.{Machine}
use Rattle.iloc_timed.specs.Kinds.{kind}
use Rattle.iloc_timed.specs.Latency.{latency, latency_of}
use Rattle.iloc_timed.specs.Rows.{empty_row, row_at, slots}
use Rattle.iloc_timed.specs.Timed.{Issued, arrived, word_in, issue, issue_all, issued_before, executed_in, timed_outcome, timed_outcome_of}
use Rattle.iloc_timed.specs.Wheel.{list_at}
use Rattle.iloc_timed.specs.Steps.Machine.{landed, AllLand, Follows, After, then_issued}
use Rattle.iloc_timed.specs.RowByRow.{HasRun}
use Rattle.iloc_timed.proofs.Landing.{landed_all, landed_is_arrived}

-- what follows from a value follows from a result
pub if_ok : {X E : Type 0} (P Q : X → Type 0) (r : Result X E) → ((x : X) → P x → Q x) → IfOk r P → IfOk r Q
if_ok P Q (Ok x) follows holds = follows x holds
if_ok P Q (Err e) follows holds = tt

-- an operation takes one cycle at least
pub some_latency : (lat : Latencies) (k : Kind) → 1 ≤ latency_of lat k
some_latency lat k = grind arith

-- a schedule begins with all registers 0, the memory handed in, no output and nothing under way
pub begins : (machine : Machine) (memory : List ℤ) → length memory ≡ WORDS
    → ((r : Reg) → value_of machine.state.registers r ≡ pos 0) → machine.state.memory ≡ record { first = memory; words = memory }
    → machine.state.outputs.items ≡ [] → length machine.wheel ≡ 16 → ((c : ℕ) → list_at machine.wheel c ≡ [])
    → Follows memory 0 [] machine
begins machine memory size registers words outputs count empty = grind arith

-- what is issued in a slot
pub slot_issued : (lat : Latencies) (memory : List ℤ) (ops : List Op) (c i : ℕ) (op : Op) (log : List Issued)
    → op ≡ op_at ops i → then_issued memory (c + 1) (c + latency lat op) op log
    ≡ issue_all lat memory ops c (option_to_list (Some i)) log
slot_issued lat memory ops c i op log is = grind (arith, landed_is_arrived)

-- what is issued in a cycle has not arrived in it
arrived-issue : (lat : Latencies) (memory : List ℤ) (c : ℕ) (log before : List Issued) (op : Op)
    → arrived c (issue lat memory c before op ∷ log) ≡ arrived c log
arrived-issue lat memory c log before op = grind (arith, some_latency, lt-leb)

both_issued : (lat : Latencies) (memory : List ℤ) (ops : List Op) (c : ℕ) (one other : Option ℕ) (log : List Issued)
    → issue_all lat memory ops c (option_to_list one) (issue_all lat memory ops c (option_to_list other) log)
    ≡ issue_all lat memory ops c (option_to_list one ++ option_to_list other) log
both_issued lat memory ops c one other log = grind (arith, arrived-issue)

-- the slots of a row, unit 0 first, read the same
pub row_issued : (lat : Latencies) (memory : List ℤ) (ops : List Op) (c : ℕ) (row : Row) (log : List Issued)
    → issue_all lat memory ops c (option_to_list row.one) (issue_all lat memory ops c (option_to_list row.zero) log)
    ≡ issue_all lat memory ops c (slots row) log
row_issued lat memory ops c row log = both_issued lat memory ops c row.one row.zero log

-- a fault stays
fault_stays : (more log : List Issued) → has_fault (executed_in log) ≡ true → has_fault (executed_in (more ++ log))
    ≡ true
fault_stays [] log fault = fault
fault_stays (e ∷ more) log fault = grind (arith, or_right, fault_stays more log fault)

pub fault_later : (lat : Latencies) (memory : List ℤ) (ops : List Op) (rows : List Row) (c more : ℕ)
    → has_fault (executed_in (issued_before lat memory ops rows c)) ≡ true
    → has_fault (executed_in (issued_before lat memory ops rows (c + more))) ≡ true
fault_later lat memory ops rows c zero fault = rw add-zero fault
fault_later lat memory ops rows c (suc more) fault =
    rw add-suc (fault_stays (map _ (slots (row_at rows (c + more)))) (issued_before lat memory ops rows (c + more))
    (fault_later lat memory ops rows c more fault))

-- one row more
pub row_more : (lat : Latencies) (memory : List ℤ) (ops : List Op) (rows : List Row) (c : ℕ)
    → issue_all lat memory ops c (slots (row_at rows c)) (issued_before lat memory ops rows c)
    ≡ issued_before lat memory ops rows (c + 1)
row_more lat memory ops rows c = rw add-one refl

pub no_fault : (c : ℕ) (log : List Issued) → AllLand c log → has_fault (executed_in log) ≡ false
no_fault c [] all = refl
no_fault c (e ∷ earlier) all = grind (arith, or_from, no_fault c earlier all.2)

-- a run whose results have all landed
pub finishes : (memory : List ℤ) (n : ℕ) (log : List Issued) (machine : Machine) → AllLand n log
    → Follows memory n log machine → Finished machine.state.outputs.items machine.state.memory.words ≡ timed_outcome_of memory log
finishes memory n log machine all follows =
    let everything : landed n log ≡ log = landed_all n log all in
    let words : machine.state.memory.words ≡ with_words memory (word_in memory log) =
    fill_by_all (λ k. word_in memory log (4 * k)) machine.state.memory.words (length memory) (pos 0) (follows.same_size
    ∙ sym follows.size) (λ k below.
    let small : k < WORDS = rw follows.size at below in
    let number : 4 * k / 4 ≡ k = omega arith in
    ap (λ j. get_or machine.state.memory.words j (pos 0)) (sym number) ∙ follows.words (4 * k) (good_word k small)
    ∙ ap (λ l. word_in memory l (4 * k)) everything) in
    let fine : has_fault (executed_in log) ≡ false = no_fault n log all in
    rw (fine, follows.outputs, words) refl

-- and 16 at most
pub short_latency : (lat : Latencies) (k : Kind) → latency_of lat k ≤ 16
short_latency lat k = grind arith

-- the operation of a slot, issued by the machine
pub after_slot : (lat : Latencies) (ops : List Op) (own : List ℕ) (c i : ℕ) (slot : Option ℕ) (other : Op) (old new : Machine)
    (goes_on : Bool) → slot ≡ Some i → IfSome slot (λ j. j < length ops) → own ≡ map (latency lat) ops
    → ((memory : List ℤ) (n : ℕ) (log : List Issued) → n ≤ c + get_or own i 0 → c + get_or own i 0 < n + 16 → Follows memory n log old
    → After goes_on memory n (then_issued memory n (c + get_or own i 0) (get_or ops i other) log) new)
    → (memory : List ℤ) (log : List Issued) → Follows memory (c + 1) log old
    → After goes_on memory (c + 1) (issue_all lat memory ops c (option_to_list slot) log) new
after_slot lat ops own c i slot other old new goes_on is known table says memory log follows =
    let within : i < length ops = rw is at known in
    let takes : get_or own i 0 ≡ latency lat (get_or ops i other) =
    ap (λ xs. get_or xs i 0) table ∙ get_or-map (latency lat) ops i other 0 within in
    let there : get_or ops i other ≡ op_at ops i = get_or_default ops i other Nop within in
    let some : 1 ≤ latency lat (get_or ops i other) = some_latency lat (kind (get_or ops i other)) in
    let short : latency lat (get_or ops i other) ≤ 16 = short_latency lat (kind (get_or ops i other)) in
    let same : then_issued memory (c + 1) (c + get_or own i 0) (get_or ops i other) log
    ≡ issue_all lat memory ops c (option_to_list slot) log =
    ap (λ n. then_issued memory (c + 1) (c + n) (get_or ops i other) log) takes
    ∙ slot_issued lat memory ops c i (get_or ops i other) log there
    ∙ ap (λ s. issue_all lat memory ops c (option_to_list s) log) (sym is) in
    subst (λ l. After goes_on memory (c + 1) l new) same (says memory (c + 1) log (omega arith) (omega arith) follows)

-- both slots of a row
pub after_row : (lat : Latencies) (ops : List Op) (c : ℕ) (row : Row) (old mid new : Machine) (goes_on : Bool)
    → ((memory : List ℤ) (log : List Issued) → Follows memory c log old
    → Follows memory (c + 1) (issue_all lat memory ops c (option_to_list row.zero) log) mid)
    → ((memory : List ℤ) (log : List Issued) → Follows memory (c + 1) log mid
    → After goes_on memory (c + 1) (issue_all lat memory ops c (option_to_list row.one) log) new)
    → (memory : List ℤ) (log : List Issued) → Follows memory c log old
    → After goes_on memory (c + 1) (issue_all lat memory ops c (slots row) log) new
after_row lat ops c row old mid new goes_on first second memory log follows = grind (arith, row_issued)

-- the log of rows, with one row more
before_more : (lat : Latencies) (memory : List ℤ) (ops : List Op) (rows : List Row) (row : Row) (c : ℕ) → c ≤ length rows
    → issued_before lat memory ops (rows ++ row ∷ []) c ≡ issued_before lat memory ops rows c
before_more lat memory ops rows row zero within = refl
before_more lat memory ops rows row (suc c) within =
    ap₂ (λ r log. issue_all lat memory ops c (slots r) log)
    (get_or_append_left rows (row ∷ []) empty_row c (omega arith)) (before_more lat memory ops rows row c (omega arith))

abbrev log_of : Latencies → List ℤ → List Op → List Row → List Issued
log_of lat memory ops rows = issued_before lat memory ops rows (length rows)

log_more : (lat : Latencies) (memory : List ℤ) (ops : List Op) (rows : List Row) (row : Row)
    → log_of lat memory ops (rows ++ row ∷ []) ≡ issue_all lat memory ops (length rows) (slots row) (log_of lat memory ops rows)
log_more lat memory ops rows row =
    ap (λ n. issued_before lat memory ops (rows ++ row ∷ []) n) (length_push rows row ∙ add-one (length rows))
    ∙ ap₂ (λ r log. issue_all lat memory ops (length rows) (slots r) log)
    (get_or_push rows row empty_row (length rows) refl) (before_more lat memory ops rows row (length rows) (omega arith))

-- a machine follows a log whether or not it is noted that the run goes on
pub follows_as : (memory : List ℤ) (c : ℕ) (log : List Issued) (m : Machine) (finished : Bool) → Follows memory c log m
    → Follows memory c log (record m { state = record m.state { finished = finished } })
follows_as memory c log m finished follows = grind arith

pub after_as : (goes_on : Bool) (memory : List ℤ) (c : ℕ) (log : List Issued) (m : Machine) (finished : Bool)
    → After goes_on memory c log m → After goes_on memory c log (record m { state = record m.state { finished = finished } })
after_as true memory c log m finished after = follows_as memory c log m finished after
after_as false memory c log m finished after = after

-- the outcome of rows that have run, once the rest has landed, or up to a fault
pub ends : (lat : Latencies) (ops : List Op) (rows : List Row) (from : ℕ) (before after : Machine) → from ≡ length rows
    → Follows before.state.memory.first (length rows) (log_of lat before.state.memory.first ops rows) before
    → ((words : List ℤ) (log : List Issued) → Follows words from log before → Follows words (from + 16) log after)
    → Finished after.state.outputs.items after.state.memory.words ≡ timed_outcome lat ops rows before.state.memory.first
ends lat ops rows from before after count follows lands = grind (arith, finishes)

-- what is shown of rows that have run
pub ran_shown : (lat : Latencies) (ops : List Op) (rows : List Row) (m : Machine) (finished : Bool)
    → After finished m.state.memory.first (length rows) (log_of lat m.state.memory.first ops rows) m
    → shown (leaves finished m.state) ≡ shown (timed_outcome lat ops rows m.state.memory.first)
ran_shown lat ops rows m true follows =
    rw (no_fault (length rows + 16) (log_of lat m.state.memory.first ops rows) follows.all_land, follows.outputs) refl
ran_shown lat ops rows m false fault = rw fault refl

pub ran_fault : (lat : Latencies) (ops : List Op) (rows : List Row) (memory : List ℤ)
    → has_fault (executed_in (log_of lat memory ops rows)) ≡ true → Fault ≡ timed_outcome lat ops rows memory
ran_fault lat ops rows memory fault = rw fault refl

-- rows that have run, and one more
pub ran_row : (lat : Latencies) (ops : List Op) (rows : List Row) (row : Row) (cycle : ℕ) (old new : Machine) (goes_on : Bool)
    → length rows ≡ cycle → old.state.finished ≡ true → new.state.memory.first ≡ old.state.memory.first → HasRun lat ops rows old
    → ((memory : List ℤ) (log : List Issued) → Follows memory cycle log old
    → After goes_on memory (cycle + 1) (issue_all lat memory ops cycle (slots row) log) new)
    → HasRun lat ops (rows ++ row ∷ []) (record new { state = record new.state { finished = goes_on } })
ran_row lat ops rows row cycle old new goes_on count on first ran says =
    let memory : List ℤ = new.state.memory.first in
    let begun : Follows old.state.memory.first (length rows) (log_of lat old.state.memory.first ops rows) old =
    subst (λ b. After b old.state.memory.first (length rows) (log_of lat old.state.memory.first ops rows) old) on ran in
    let follows : Follows memory (length rows) (log_of lat memory ops rows) old =
    subst (λ words. Follows words (length rows) (log_of lat words ops rows) old) (sym first) begun in
    let after : After goes_on memory (length rows + 1) (issue_all lat memory ops (length rows) (slots row) (log_of lat memory ops rows)) new =
    subst (λ n. (words : List ℤ) (log : List Issued) → Follows words n log old
    → After goes_on words (n + 1) (issue_all lat words ops n (slots row) log) new) (sym count) says
    memory (log_of lat memory ops rows) follows in
    let all : After goes_on memory (length (rows ++ row ∷ [])) (log_of lat memory ops (rows ++ row ∷ [])) new =
    subst (λ log. After goes_on memory (length (rows ++ row ∷ [])) log new) (sym (log_more lat memory ops rows row))
    (subst (λ n. After goes_on memory n (issue_all lat memory ops (length rows) (slots row) (log_of lat memory ops rows)) new)
    (sym (length_push rows row)) after) in
    after_as goes_on memory (length (rows ++ row ∷ [])) (log_of lat memory ops (rows ++ row ∷ [])) new goes_on all

-- a fault has ended the run before the row
pub ran_none : (lat : Latencies) (ops : List Op) (rows : List Row) (row : Row) (m : Machine) → m.state.finished ≡ false
    → HasRun lat ops rows m → HasRun lat ops (rows ++ row ∷ []) m
ran_none lat ops rows row m off ran =
    let memory : List ℤ = m.state.memory.first in
    let fault : has_fault (executed_in (log_of lat memory ops rows)) ≡ true =
    subst (λ b. After b memory (length rows) (log_of lat memory ops rows) m) off ran in
    let stays : has_fault (executed_in (log_of lat memory ops (rows ++ row ∷ []))) ≡ true =
    rw (log_more lat memory ops rows row) (fault_stays (map _ (slots row)) (log_of lat memory ops rows) fault) in
    subst (λ b. After b memory (length (rows ++ row ∷ [])) (log_of lat memory ops (rows ++ row ∷ [])) m) (sym off) stays
