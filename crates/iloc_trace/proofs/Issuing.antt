-- What is issued in a slot.
use Rattle.iloc_trace.proofs.Common.{◌≡◌, ℕ, ◌+◌, List, [], ◌∷◌, ◌++◌, map, ℤ, pos, negsuc, IfSome, IsTrue, Some, None, fold, Option, option_to_list, sym, refl, ap, ◌∙◌, ap₂, append-nil, arith, le-ltb, lt-leb, map-append, Op, Reg, by_bool, effect_same, good_address, is_good, effect, word_at, is_fault, value_of, op_at, some_latency, Issued, arrived, issue, register_in, word_in, Latencies, issue_line, trace_lines, Place, Register, Word}
use Rattle.iloc_timed.proofs.Landing.{landed_is_arrived}
use Rattle.iloc_trace.specs.declared.event.Read.{Read}
use Rattle.iloc_trace.specs.declared.machine.TracedMachine.{TracedMachine}
use Rattle.iloc_trace.specs.Places.{address_read, places_read, value_in}
use Rattle.iloc_trace.specs.Events.{read_of, issue_of, in_slot as issued_in}
use Rattle.iloc_trace.specs.Steps.Arrivals.{IsGood, arrival_of, arrivals, first_for}
use Rattle.iloc_trace.specs.Steps.Rows.{Follows, executed_at, in_slot, place_value, read_at, reads_of, sent_in, slot_line}
use Rattle.iloc_trace.proofs.OnTheirWay.{next_due_of_log}

-- what the machine says is what has arrived
value_arrived : (lat : Latencies) (memory : List ℤ) (c : ℕ) (log : List Issued) (m : TracedMachine)
    → Follows lat memory (c + 1) log m → (place : Place) → IsGood place
    → value_in memory (arrived c log) place ≡ place_value m place
value_arrived lat memory c log m follows place good = grind (arith, landed_is_arrived)

-- so an operation has the effect that the log gives it
pub effect_now : (lat : Latencies) (memory : List ℤ) (c : ℕ) (log : List Issued) (m : TracedMachine) (op : Op)
    → Follows lat memory (c + 1) log m
    → effect op (register_in (arrived c log)) (word_in memory (arrived c log))
    ≡ effect op (value_of m.registers) (word_at m.memory.words)
effect_now lat memory c log m op follows = effect_same op _ _ _ _
    (λ r there. value_arrived lat memory c log m follows (Register r) tt)
    (λ a good. value_arrived lat memory c log m follows (Word a) good)

-- and sends the same
sent_same : (lat : Latencies) (memory : List ℤ) (c : ℕ) (log : List Issued) (m : TracedMachine) (op : Op)
    → Follows lat memory (c + 1) log m
    → arrival_of lat (issue lat memory c log op) ≡ (executed_at lat m c op).sent
sent_same lat memory c log m op follows = grind (arith, effect_now)

pub arrivals_one : (lat : Latencies) (memory : List ℤ) (c : ℕ) (log before : List Issued) (m : TracedMachine) (op : Op)
    → Follows lat memory (c + 1) log m
    → arrivals lat (c + 1) (issue lat memory c log op ∷ before)
    ≡ arrivals lat (c + 1) before ++ option_to_list (executed_at lat m c op).sent
arrivals_one lat memory c log before m op follows = grind (arith, le-ltb, option_to_list, sent_same, some_latency)

arrivals_slot : (lat : Latencies) (memory : List ℤ) (ops : List Op) (c : ℕ) (log : List Issued) (m : TracedMachine)
    (slot : Option ℕ) → Follows lat memory (c + 1) log m
    → arrivals lat (c + 1) (issued_in lat memory ops c log slot ++ log)
    ≡ arrivals lat (c + 1) log ++ option_to_list (sent_in (in_slot lat m ops c slot))
arrivals_slot lat memory ops c log m None follows = sym (append-nil (arrivals lat (c + 1) log))
arrivals_slot lat memory ops c log m (Some i) follows = arrivals_one lat memory c log log m (op_at ops i) follows

-- what is issued in a cycle has not arrived in it
pub slot_arrived : (lat : Latencies) (memory : List ℤ) (ops : List Op) (c : ℕ) (log : List Issued) (slot : Option ℕ)
    → arrived c (issued_in lat memory ops c log slot ++ log) ≡ arrived c log
slot_arrived lat memory ops c log slot = grind (arith, lt-leb, some_latency)

-- the places that an operation reads are good
good_address_good : (z : ℤ) → IfSome (good_address z) (λ a. IsTrue (is_good (pos a)))
good_address_good (pos a) = by_bool (is_good (pos a)) (λ t. rw t t) (λ t. rw t tt)
good_address_good (negsuc n) = tt

address_good : (op : Op) (reg : Reg → ℤ) → IfSome (address_read op reg) (λ a. IsTrue (is_good (pos a)))
address_good op reg = grind (arith, good_address_good)

address_same : (op : Op) (reg other : Reg → ℤ) → ((r : Reg) → reg r ≡ other r)
    → address_read op reg ≡ address_read op other
address_same op reg other same = grind arith

map_registers : (f g : Place → Read) (rs : List Reg) → ((r : Reg) → f (Register r) ≡ g (Register r))
    → map f (map Register rs) ≡ map g (map Register rs)
map_registers f g [] same = refl
map_registers f g (r ∷ rs) same = ap₂ (λ x xs. x ∷ xs) (same r) (map_registers f g rs same)

map_word : (f g : Place → Read) (a : Option ℕ) → IfSome a (λ b. IsTrue (is_good (pos b)))
    → ((b : ℕ) → IsTrue (is_good (pos b)) → f (Word b) ≡ g (Word b))
    → map f (map Word (option_to_list a)) ≡ map g (map Word (option_to_list a))
map_word f g None good same = refl
map_word f g (Some a) good same = ap (λ x. x ∷ []) (same a good)

map_places : (f g : Place → Read) (op : Op) (reg other : Reg → ℤ) → ((r : Reg) → reg r ≡ other r)
    → ((place : Place) → IsGood place → f place ≡ g place) → map f (places_read op reg) ≡ map g (places_read op other)
map_places f g op reg other registers same = grind (arith, address_good, address_same, map-append, map_registers, map_word, option_to_list)

abbrev read_made : Place → ℤ → Option ℕ → Read
read_made place value until = record { place = place; value = value; until = until }

-- what is read beside what is in the other slot
reads_same : (lat : Latencies) (memory : List ℤ) (ops : List Op) (c : ℕ) (log : List Issued) (m : TracedMachine)
    (beside : Option ℕ) (op : Op) → Follows lat memory (c + 1) log m
    → map (read_of memory c (issued_in lat memory ops c log beside ++ log)) (places_read op (register_in (arrived c log)))
    ≡ reads_of m (m.under_way ++ option_to_list (sent_in (in_slot lat m ops c beside))) op
reads_same lat memory ops c log m beside op follows =
    let coming : arrivals lat (c + 1) (issued_in lat memory ops c log beside ++ log)
    ≡ m.under_way ++ option_to_list (sent_in (in_slot lat m ops c beside)) =
    arrivals_slot lat memory ops c log m beside follows
    ∙ ap (λ l. l ++ option_to_list (sent_in (in_slot lat m ops c beside))) (sym follows.under_way) in
    map_places (read_of memory c (issued_in lat memory ops c log beside ++ log))
    (read_at m (m.under_way ++ option_to_list (sent_in (in_slot lat m ops c beside)))) op _ _
    (λ r. value_arrived lat memory c log m follows (Register r) tt)
    (λ place good. ap₂ (read_made place)
    (ap (λ l. value_in memory l place) (slot_arrived lat memory ops c log beside)
    ∙ value_arrived lat memory c log m follows place good)
    (sym (next_due_of_log lat c place (issued_in lat memory ops c log beside ++ log))
    ∙ ap (fold (first_for place) None) coming))

-- the line of a slot
pub slot_lines : (lat : Latencies) (memory : List ℤ) (ops : List Op) (c unit : ℕ) (log : List Issued) (m : TracedMachine)
    (slot beside : Option ℕ) → Follows lat memory (c + 1) log m
    → trace_lines (map (issue_of memory c unit log (issued_in lat memory ops c log beside)) (issued_in lat memory ops c log slot))
    ≡ slot_line m unit (in_slot lat m ops c slot) (in_slot lat m ops c beside)
slot_lines lat memory ops c unit log m None beside follows = refl
slot_lines lat memory ops c unit log m (Some i) beside follows =
    append-nil _
    ∙ ap₂ (λ reads faults. issue_line (record { cycle = c; unit = unit; op = op_at ops i; reads = reads; faults = faults }))
    (reads_same lat memory ops c log m beside (op_at ops i) follows)
    (ap is_fault (effect_now lat memory c log m (op_at ops i) follows))
