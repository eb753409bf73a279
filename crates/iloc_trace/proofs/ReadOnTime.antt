-- A lawful schedule reads nothing for which a result is under way.
use Rattle.iloc_trace.proofs.Common.{◌≡◌, ℕ, zero, suc, ◌+◌, ◌<◌, ◌≤◌, true, false, ◌&&◌, List, [], ◌∷◌, ◌++◌, map, length, ℤ, IfSome, nat_lt, Some, None, Contains, Option, option_to_list, refl, subst, inl, inr, arith, and_right, cases_lt, le-ltb, All-append, All-cons, All-contains_itself, All-map, All-nil, All-weaker, All, flat_map, defined, used, Op, Reg, by_bool, has_fault, is_register, is_write_to, op_at, Effect, Faults, Gives, Writes, holds_one, holds_zero, is_store, kind, latency, IsTable, issue_cycle, row_at, slots, Issued, arrived, executed_in, issue, issued_before, register_in, Kind, Latencies, Row, contains_from, in_from, is_register_same, cycle_is, from_holds, within, Waits, kept_in_order, read_then_store, stored_in_time, used_in_time, renamed_is_renamed, IsRenamed, In, Place, Register, Word}
use Rattle.iloc_timed.specs.declared.kind.Kind.TheVariants as K
use Rattle.iloc_rules.proofs.Outcome.UsedEffects.{only_stores_write, reads_memory}
use Rattle.iloc_trace.specs.Places.{address_read, goes_to, is_place, once, places_read, target_of}
use Rattle.iloc_trace.specs.Events.{due_at, events_at, in_slot, issue_of, issues, landed, next_due, read_of, writes}
use Rattle.iloc_trace.specs.Laws.{IsOnTime, LawfulSchedulesReadOnTime, ReadsOnTime}

-- what goes to a register is a result of what defines it, and what goes to a word is a write
to_register : (r : Reg) (d : Option Reg) (effect : Effect) → is_place (Register r) (target_of d effect) ≡ true
    → is_register r d ≡ true
to_register r None Faults is = absurd cc
to_register r (Some s) (Gives result) is = is
to_register r _ _ is = absurd cc

to_word : (a : ℕ) (d : Option Reg) (effect : Effect) → is_place (Word a) (target_of d effect) ≡ true
    → is_write_to a effect ≡ true
to_word a None (Gives result) is = absurd cc
to_word a _ (Writes b w) is = is
to_word a _ _ is = absurd cc

no_store_reads : (k : Kind) → is_store k ≡ true → reads_memory k ≡ true → ⊥
no_store_reads K.Store store reads = absurd cc
no_store_reads _ store reads = absurd cc

-- each register that is read is used
used_once : (rs : List Reg) → All (In rs) (once rs)
used_once [] = All-nil (In [])
used_once (r ∷ []) = All-cons (In (r ∷ [])) r [] (inl refl) (All-nil _)
used_once (r ∷ s ∷ []) = grind arith
used_once (r ∷ s ∷ t ∷ more) = All-weaker (Contains (r ∷ s ∷ t ∷ more)) (In (r ∷ s ∷ t ∷ more))
    (λ x there. in_from (r ∷ s ∷ t ∷ more) x there) (r ∷ s ∷ t ∷ more) (All-contains_itself (r ∷ s ∷ t ∷ more))

if_any : {P : Type 0} (o : Option ℕ) → P → IfSome o (λ a. P)
if_any None p = tt
if_any (Some a) p = p

-- a word is read where memory is
word_is_read : (op : Op) (reg : Reg → ℤ) → IfSome (address_read op reg) (λ a. reads_memory (kind op) ≡ true)
word_is_read op reg = grind (arith, if_any)

-- nothing is due for a place that nothing of a row goes to
none_in_row : (lat : Latencies) (memory : List ℤ) (ops : List Op) (c n : ℕ) (place : Place) (log : List Issued)
    (numbers : List ℕ) (before : List Issued)
    → ((i : ℕ) → In numbers i → (nat_lt c (n + latency lat (op_at ops i))
    && goes_to place (issue lat memory n log (op_at ops i)).executed) ≡ false)
    → next_due c place before ≡ None
    → next_due c place (map (λ i. issue lat memory n log (op_at ops i)) numbers ++ before) ≡ None
none_in_row lat memory ops c n place log [] before each none = none
none_in_row lat memory ops c n place log (i ∷ numbers) before each none =
    grind (arith, none_in_row lat memory ops c n place log numbers before (λ k there. each k (inr there)) none)

slot_of : (row : Row) (slot : Option ℕ) → ((i : ℕ) → slot ≡ Some i → In (slots row) i) → (i : ℕ)
    → In (option_to_list slot) i → In (slots row) i
slot_of row slot held i there = grind arith

module _ (lat : Latencies) (memory : List ℤ) (ops : List Op) (rows : List Row) (renamed : IsRenamed ops)
    (table : IsTable ops rows) (waits : Waits lat ops rows) where
  register_in_time : (c n i j : ℕ) (r : Reg) (log : List Issued) → In (slots (row_at rows c)) j
      → In (slots (row_at rows n)) i → In (used (op_at ops j)) r → (nat_lt c (n + latency lat (op_at ops i))
      && goes_to (Register r) (issue lat memory n log (op_at ops i)).executed) ≡ false
  register_in_time c n i j r log here there uses =
      let e = issue lat memory n log (op_at ops i) in
      by_bool (goes_to (Register r) e.executed)
      (λ goes.
      let defines : defined (op_at ops i) ≡ Some r =
      is_register_same r (defined (op_at ops i)) (to_register r (defined (op_at ops i)) e.executed.effect goes) in
      let before : i < j = renamed.defined_before j i r (contains_from (used (op_at ops j)) r uses) defines in
      let known : j < length ops = within ops rows table c j here in
      let over : issue_cycle rows i + latency lat (op_at ops i) ≤ issue_cycle rows j =
      used_in_time lat ops rows waits j i r known before uses defines in
      let at : issue_cycle rows i ≡ n = cycle_is ops rows table n i there in
      let now : issue_cycle rows j ≡ c = cycle_is ops rows table c j here in
      let late : nat_lt c (n + latency lat (op_at ops i)) ≡ false = le-ltb c (n + latency lat (op_at ops i)) (omega arith) in
      rw late refl)
      (λ elsewhere. rw elsewhere (and_right (nat_lt c (n + latency lat (op_at ops i))) false refl))

  word_in_time : (c n i j a : ℕ) (log : List Issued) → In (slots (row_at rows c)) j → In (slots (row_at rows n)) i
      → n ≤ c → reads_memory (kind (op_at ops j)) ≡ true → (nat_lt c (n + latency lat (op_at ops i))
      && goes_to (Word a) (issue lat memory n log (op_at ops i)).executed) ≡ false
  word_in_time c n i j a log here there early reads =
      let e = issue lat memory n log (op_at ops i) in
      by_bool (goes_to (Word a) e.executed)
      (λ goes.
      let store : is_store (kind (op_at ops i)) ≡ true =
      only_stores_write (op_at ops i) _ _ a (to_word a (defined (op_at ops i)) e.executed.effect goes) in
      let known : j < length ops = within ops rows table c j here in
      let found : i < length ops = within ops rows table n i there in
      let at : issue_cycle rows i ≡ n = cycle_is ops rows table n i there in
      let now : issue_cycle rows j ≡ c = cycle_is ops rows table c j here in
      elim (cases_lt i j) [
        | inl before ↦
            let over : issue_cycle rows i + latency lat (op_at ops i) ≤ issue_cycle rows j =
            stored_in_time lat ops rows waits j i known before store reads in
            let late : nat_lt c (n + latency lat (op_at ops i)) ≡ false = le-ltb c (n + latency lat (op_at ops i)) (omega arith) in
            rw late refl
        | inr from ↦ elim (cases_lt j i) [
          | inl before ↦
              let later : issue_cycle rows j < issue_cycle rows i =
              kept_in_order lat ops rows waits j i found before (read_then_store _ _ reads store) in
              absurd (omega arith)
          | inr same ↦
              let one : i ≡ j = omega arith in
              absurd (no_store_reads (kind (op_at ops j)) (subst (λ k. is_store (kind (op_at ops k)) ≡ true) one store) reads)
        ]
      ])
      (λ elsewhere. rw elsewhere (and_right (nat_lt c (n + latency lat (op_at ops i))) false refl))

  -- nothing that was issued by cycle n is due for a register that is read then
  register_free : (c n j : ℕ) (r : Reg) → In (slots (row_at rows c)) j → In (used (op_at ops j)) r
      → next_due c (Register r) (issued_before lat memory ops rows n) ≡ None
  register_free c zero j r here uses = refl
  register_free c (suc n) j r here uses = grind (arith, none_in_row, register_in_time, register_free c n j r here uses)

  word_free : (c n j a : ℕ) → In (slots (row_at rows c)) j → n ≤ c → reads_memory (kind (op_at ops j)) ≡ true
      → next_due c (Word a) (issued_before lat memory ops rows n) ≡ None
  word_free c zero j a here early reads = refl
  word_free c (suc n) j a here early reads = grind (arith, none_in_row, word_in_time, word_free c n j a here (omega arith) reads)

  word_read_on_time : (c j : ℕ) (log : List Issued) (a : Option ℕ) → IfSome a (λ b. reads_memory (kind (op_at ops j)) ≡ true)
      → ((b : ℕ) → reads_memory (kind (op_at ops j)) ≡ true → next_due c (Word b) log ≡ None)
      → All (λ place. IsOnTime (read_of memory c log place)) (map Word (option_to_list a))
  word_read_on_time c j log a reads free = grind arith

  -- what is issued in a slot reads nothing that is due later
  slot_on_time : (c unit : ℕ) (slot beside : Option ℕ)
      → ((i : ℕ) → slot ≡ Some i → In (slots (row_at rows c)) i)
      → ((i : ℕ) → beside ≡ Some i → In (slots (row_at rows c)) i)
      → All ReadsOnTime (map (issue_of memory c unit (issued_before lat memory ops rows c)
      (in_slot lat memory ops c (issued_before lat memory ops rows c) beside))
      (in_slot lat memory ops c (issued_before lat memory ops rows c) slot))
  slot_on_time c unit None beside held other = All-nil ReadsOnTime
  slot_on_time c unit (Some j) beside held other =
      let log : List Issued = issued_before lat memory ops rows c in
      let all : List Issued = in_slot lat memory ops c log beside ++ log in
      let here : In (slots (row_at rows c)) j = held j refl in
      let at_register : (r : Reg) → In (used (op_at ops j)) r → next_due c (Register r) all ≡ None =
      λ r uses. none_in_row lat memory ops c c (Register r) log (option_to_list beside) log
      (λ i there. register_in_time c c i j r log here (slot_of (row_at rows c) beside other i there) uses)
      (register_free c c j r here uses) in
      let at_word : (a : ℕ) → reads_memory (kind (op_at ops j)) ≡ true → next_due c (Word a) all ≡ None =
      λ a reads. none_in_row lat memory ops c c (Word a) log (option_to_list beside) log
      (λ i there. word_in_time c c i j a log here (slot_of (row_at rows c) beside other i there) (omega arith) reads)
      (word_free c c j a here (omega arith) reads) in
      let reg : Reg → ℤ = register_in (arrived c log) in
      All-cons ReadsOnTime (issue_of memory c unit log (in_slot lat memory ops c log beside)
      (issue lat memory c log (op_at ops j))) []
      (All-map IsOnTime (read_of memory c all) (places_read (op_at ops j) reg)
      (All-append (λ place. IsOnTime (read_of memory c all place)) (map Register (once (used (op_at ops j))))
      (map Word (option_to_list (address_read (op_at ops j) reg)))
      (All-map (λ place. IsOnTime (read_of memory c all place)) Register (once (used (op_at ops j)))
      (All-weaker (In (used (op_at ops j))) (λ r. IsOnTime (read_of memory c all (Register r))) at_register
      (once (used (op_at ops j))) (used_once (used (op_at ops j)))))
      (word_read_on_time c j all (address_read (op_at ops j) reg) (word_is_read (op_at ops j) reg) at_word)))
      (All-nil ReadsOnTime)

  writes_on_time : (c : ℕ) (there due : List Issued) → All ReadsOnTime (writes lat memory c there due)
  writes_on_time c there [] = All-nil ReadsOnTime
  writes_on_time c there (e ∷ due) = grind (arith, option_to_list, writes_on_time c (e ∷ there) due)

  cycle_on_time : (c : ℕ) → All ReadsOnTime (events_at lat memory ops rows c)
  cycle_on_time c =
      let log : List Issued = issued_before lat memory ops rows c in
      let row : Row = row_at rows c in
      let zero_held : (i : ℕ) → row.zero ≡ Some i → In (slots row) i = λ i is. from_holds row i (holds_zero row i is) in
      let one_held : (i : ℕ) → row.one ≡ Some i → In (slots row) i = λ i is. from_holds row i (holds_one row i is) in
      by_bool (has_fault (executed_in log))
      (λ fault. rw fault (All-nil ReadsOnTime))
      (λ fine. rw fine (All-append ReadsOnTime (writes lat memory c (landed c log) (due_at c log))
      (issues memory c log (in_slot lat memory ops c log row.zero) (in_slot lat memory ops c log row.one))
      (writes_on_time c (landed c log) (due_at c log))
      (All-append ReadsOnTime _ _ (slot_on_time c 0 row.zero row.one zero_held one_held)
      (slot_on_time c 1 row.one row.zero one_held zero_held))))

  all_on_time : (cycles : List ℕ) → All ReadsOnTime (flat_map (events_at lat memory ops rows) cycles)
  all_on_time [] = All-nil ReadsOnTime
  all_on_time (c ∷ cycles) = All-append ReadsOnTime (events_at lat memory ops rows c)
      (flat_map (events_at lat memory ops rows) cycles) (cycle_on_time c) (all_on_time cycles)

pub lawful_reads_on_time : LawfulSchedulesReadOnTime
lawful_reads_on_time = grind (arith, all_on_time, renamed_is_renamed)
