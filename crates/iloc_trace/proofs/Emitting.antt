-- The words that a trace emits are those of the outcome.
use Rattle.iloc_trace.proofs.Common.{◌≡◌, ℕ, zero, suc, ◌+◌, true, false, List, [], ◌∷◌, ◌++◌, map, length, ℤ, Some, None, Option, option_to_list, sym, refl, ap, ◌∙◌, ap₂, append_assoc, append-nil, add-zero, add-suc, add-one, arith, get_or_past, flat_map-append, flat_map, Op, Output, Reg, by_bool, good_address, constant, at_address, effect, emitted, emitted_by as emits, has_fault, op_at, Emits, fault_later, empty_row, row_at, slots, Issued, arrived, executed_in, issue, issue_all, issued_before, register_in, word_in, Latencies, Row, Place, Word}
use Rattle.iloc_rules.proofs.Outcome.UsedEffects.{only_outputs_emit}
use Rattle.iloc_trace.specs.declared.event.Read.{Read}
use Rattle.iloc_trace.specs.Places.{places_read}
use Rattle.iloc_trace.specs.Events.{due_at, events_at, in_slot, issue_of, issues, landed, read_of, write_of, writes}
use Rattle.iloc_trace.specs.Laws.{TracesEmitTheOutcome, emitted_by, words_of}
use Rattle.iloc_trace.proofs.Issuing.{slot_arrived}
use Rattle.iloc_trace.proofs.WholeRuns.{events_before, from_more}

output_emits : (f : Place → Read) (word : ℕ → ℤ) (a : Option ℕ) → ((b : ℕ) → (f (Word b)).value ≡ word b)
    → map (λ (it : Read). it.value) (map f (map Word (option_to_list a))) ≡ emits (at_address a (λ b. Emits (word b)))
output_emits f word None same = refl
output_emits f word (Some a) same = ap (λ v. v ∷ []) (same a)

-- what an operation's line emits is what its effect does
op_emits : (f : Place → Read) (op : Op) (reg : Reg → ℤ) (word : ℕ → ℤ) → ((b : ℕ) → (f (Word b)).value ≡ word b)
    → words_of op (map f (places_read op reg)) ≡ emits (effect op reg word)
op_emits f (Output addr) reg word same = output_emits f word (good_address (constant addr)) same
op_emits f op reg word same = sym (only_outputs_emit op reg word refl)

-- what is emitted in a slot
slot_words : Latencies → List ℤ → List Op → ℕ → List Issued → Option ℕ → List ℤ
slot_words lat memory ops c log None = []
slot_words lat memory ops c log (Some i) = emits (issue lat memory c log (op_at ops i)).executed.effect

slot_emits : (lat : Latencies) (memory : List ℤ) (ops : List Op) (c unit : ℕ) (log : List Issued) (slot beside : Option ℕ)
    → flat_map emitted_by (map (issue_of memory c unit log (in_slot lat memory ops c log beside)) (in_slot lat memory ops c log slot))
    ≡ slot_words lat memory ops c log slot
unfolding slot_words
slot_emits lat memory ops c unit log None beside = refl
slot_emits lat memory ops c unit log (Some i) beside =
    append-nil _
    ∙ op_emits (read_of memory c (in_slot lat memory ops c log beside ++ log)) (op_at ops i) (register_in (arrived c log))
    (word_in memory (arrived c log))
    (λ a. ap (λ l. word_in memory l a) (slot_arrived lat memory ops c log beside))

row_emits : (lat : Latencies) (memory : List ℤ) (ops : List Op) (c : ℕ) (log : List Issued) (one zero : Option ℕ)
    → emitted (executed_in (issue_all lat memory ops c (option_to_list one ++ option_to_list zero) log))
    ≡ (emitted (executed_in log) ++ slot_words lat memory ops c log zero) ++ slot_words lat memory ops c log one
unfolding slot_words
row_emits lat memory ops c log None None = sym (append-nil _ ∙ append-nil _)
row_emits lat memory ops c log None (Some z) = sym (append-nil _)
row_emits lat memory ops c log (Some o) None =
    ap (λ l. l ++ emits (issue lat memory c log (op_at ops o)).executed.effect) (sym (append-nil _))
row_emits lat memory ops c log (Some o) (Some z) = refl

write_emits : (lat : Latencies) (memory : List ℤ) (c : ℕ) (there : List Issued) (e : Issued) (to : Option Place)
    → flat_map emitted_by (map (write_of lat memory c there e) (option_to_list to)) ≡ []
write_emits lat memory c there e None = refl
write_emits lat memory c there e (Some place) = refl

writes_emit : (lat : Latencies) (memory : List ℤ) (c : ℕ) (there due : List Issued)
    → flat_map emitted_by (writes lat memory c there due) ≡ []
writes_emit lat memory c there [] = refl
writes_emit lat memory c there (e ∷ due) = grind (arith, flat_map-append, option_to_list, write_emits, writes_emit lat memory c (e ∷ there) due)

cycle_emits : (lat : Latencies) (memory : List ℤ) (ops : List Op) (rows : List Row) (c : ℕ)
    → has_fault (executed_in (issued_before lat memory ops rows c)) ≡ false
    → emitted (executed_in (issued_before lat memory ops rows c)) ++ flat_map emitted_by (events_at lat memory ops rows c)
    ≡ emitted (executed_in (issued_before lat memory ops rows (suc c)))
cycle_emits lat memory ops rows c fine =
    let log : List Issued = issued_before lat memory ops rows c in
    let row : Row = row_at rows c in
    let z : List ℤ = slot_words lat memory ops c log row.zero in
    let o : List ℤ = slot_words lat memory ops c log row.one in
    let both : flat_map emitted_by (issues memory c log (in_slot lat memory ops c log row.zero) (in_slot lat memory ops c log row.one))
    ≡ z ++ o =
    flat_map-append emitted_by
    (map (issue_of memory c 0 log (in_slot lat memory ops c log row.one)) (in_slot lat memory ops c log row.zero))
    (map (issue_of memory c 1 log (in_slot lat memory ops c log row.zero)) (in_slot lat memory ops c log row.one))
    ∙ ap₂ (λ x y. x ++ y) (slot_emits lat memory ops c 0 log row.zero row.one) (slot_emits lat memory ops c 1 log row.one row.zero) in
    let all : flat_map emitted_by (writes lat memory c (landed c log) (due_at c log)
    ++ issues memory c log (in_slot lat memory ops c log row.zero) (in_slot lat memory ops c log row.one)) ≡ z ++ o =
    flat_map-append emitted_by (writes lat memory c (landed c log) (due_at c log)) _
    ∙ ap₂ (λ x y. x ++ y) (writes_emit lat memory c (landed c log) (due_at c log)) both in
    let now : flat_map emitted_by (events_at lat memory ops rows c) ≡ z ++ o = rw fine all in
    ap (λ l. emitted (executed_in log) ++ l) now
    ∙ sym (append_assoc (emitted (executed_in log)) z o)
    ∙ sym (row_emits lat memory ops c log row.one row.zero)

all_emit : (lat : Latencies) (memory : List ℤ) (ops : List Op) (rows : List Row) (c : ℕ)
    → has_fault (executed_in (issued_before lat memory ops rows c)) ≡ false
    → flat_map emitted_by (events_before lat memory ops rows c)
    ≡ emitted (executed_in (issued_before lat memory ops rows c))
all_emit lat memory ops rows zero fine = refl
all_emit lat memory ops rows (suc c) fine =
    let before : has_fault (executed_in (issued_before lat memory ops rows c)) ≡ false =
    by_bool (has_fault (executed_in (issued_before lat memory ops rows c)))
    (λ fault.
    let later : has_fault (executed_in (issued_before lat memory ops rows (suc c))) ≡ true =
    rw add-one at (fault_later lat memory ops rows c 1 fault) in
    absurd cc)
    (λ none. none) in
    ap (flat_map emitted_by) (from_more (events_at lat memory ops rows) 0 c c (omega arith))
    ∙ flat_map-append emitted_by (events_before lat memory ops rows c) (events_at lat memory ops rows c)
    ∙ ap (λ l. l ++ flat_map emitted_by (events_at lat memory ops rows c)) (all_emit lat memory ops rows c before)
    ∙ cycle_emits lat memory ops rows c before

-- nothing is issued after the last row
none_issued : (lat : Latencies) (memory : List ℤ) (ops : List Op) (rows : List Row) (more : ℕ)
    → issued_before lat memory ops rows (length rows + more) ≡ issued_before lat memory ops rows (length rows)
none_issued lat memory ops rows zero = rw add-zero refl
none_issued lat memory ops rows (suc more) =
    let past : row_at rows (length rows + more) ≡ empty_row =
    get_or_past rows (length rows + more) empty_row (omega arith) in
    rw add-suc (ap (λ row. issue_all lat memory ops (length rows + more) (slots row)
    (issued_before lat memory ops rows (length rows + more))) past ∙ none_issued lat memory ops rows more)

pub emits_the_outcome : TracesEmitTheOutcome
emits_the_outcome = grind (arith, all_emit, none_issued)
