-- Where each delay is waited for, a schedule has the outcome of its operations in order; for `LawfulOutcomes`.
use Rattle.iloc_rules.proofs.Common.{◌≡◌, ℕ, zero, suc, ◌+◌, ◌<◌, ◌≤◌, Bool, true, false, cond, List, [], ◌∷◌, ◌++◌, map, length, ℤ, nat_le, Some, filter, find, sym, refl, ap, ◌∙◌, subst, inl, inr, append-nil, arith, le-leb, cases_order, or_right, map-append, defined, used, Op, Reg, effect, emitted, emitted_by, has_fault, outcome, Executed, before, defines, op_at, register_after, result_or_zero, word_after, writes_to, written_or, some_latency, is_output, is_store, kind, latency, IsTable, issue_cycle, row_at, slots, Issued, arrived, executed_in, issue, issue_all, issued_before, register_in, timed_outcome, word_in, Latencies, Row, Counts, IsRenamed, IsSoundOn, touched_at, In}
use Rattle.std.proofs.Math.Path.{fun_ext}
use Rattle.iloc_meaning.specs.declared.outcome.Outcome.TheVariants.{Finished, Fault}
use Rattle.iloc_meaning.specs.Memory.{word_at}
use Rattle.iloc_rules.proofs.Basics.Members.{contains_from, in_map, from_map, in_filter, from_filter, any_same}
use Rattle.iloc_rules.proofs.Basics.Rising.{countdown, in_countdown, from_countdown, falls_countdown, falls_from, falls_same}
use Rattle.iloc_rules.proofs.Basics.Ordered.{ordered_filter}
use Rattle.iloc_rules.proofs.Basics.Slots.{numbers_before, ComesLater, issued_early, early_issued, issued_within, issued_in_order, cycle_is, within}
use Rattle.iloc_rules.proofs.Outcome.UsedEffects.{reads_memory, effect_used, only_stores_write, writes_touch, only_outputs_emit, latency_of_store}
use Rattle.iloc_rules.proofs.Outcome.LookUps.{entry, look_up_same}
use Rattle.iloc_rules.proofs.DelayPairs.WaitedFor.{WaitsWhere, used_in_time, stored_where_counted, kept_in_order, kept_where_counted, read_then_store, store_then_store, output_then_output}
use Rattle.iloc_rules.proofs.Basics.Registers.{is_register_same}

-- a schedule of renamed operations in which each delay is waited for, by what is sound on this memory
pub record Keeps (counts : Counts) (lat : Latencies) (ops : List Op) (rows : List Row) (memory : List ℤ) : Type 0 where
  pub renamed : IsRenamed ops
  pub table : IsTable ops rows
  pub waits : WaitsWhere counts lat ops rows
  pub sound : IsSoundOn memory counts ops

map_same : {X Y : Type 0} → (f g : X → Y) (xs : List X) → ((x : X) → In xs x → f x ≡ g x) → map f xs ≡ map g xs
map_same f g [] same = refl
map_same f g (x ∷ xs) same = grind (arith, map_same f g xs)

executed_in-entries : (done : ℕ → Executed) (due : ℕ → ℕ) (ks : List ℕ) → executed_in (map (entry done due) ks)
    ≡ map done ks
executed_in-entries done due [] = refl
executed_in-entries done due (k ∷ ks) = ap (λ es. done k ∷ es) (executed_in-entries done due ks)

-- what emits nothing can be left out
emitted_by_some : (done : ℕ → Executed) (p : ℕ → Bool) (ks : List ℕ)
    → ((k : ℕ) → p k ≡ false → emitted_by (done k).effect ≡ [])
    → emitted (map done ks) ≡ emitted (map done (filter p ks))
emitted_by_some done p [] silent = refl
emitted_by_some done p (k ∷ ks) silent = grind (arith, append-nil, emitted_by_some done p ks silent)

outcome_same : (fault fault' : Bool) (words words' memory memory' : List ℤ) → fault ≡ fault' → words ≡ words'
    → memory ≡ memory' → cond fault Fault (Finished words memory) ≡ cond fault' Fault (Finished words' memory')
outcome_same fault fault' words words' memory memory' same_fault same_words same_memory = cc

module _ (counts : Counts) (lat : Latencies) (ops : List Op) (rows : List Row) (memory : List ℤ)
    (keeps : Keeps counts lat ops rows memory) where
  -- operation k as it is executed in program order
  plain : ℕ → Executed
  plain k = record {
    op = op_at ops k;
    effect = effect (op_at ops k) (register_after (before memory ops k))
        (word_after memory (before memory ops k));
  }

  due : ℕ → ℕ
  due k = issue_cycle rows k + latency lat (op_at ops k)

  -- what is issued before cycle c, each as in program order
  log : ℕ → List Issued
  log c = map (entry plain due) (numbers_before rows c)

  before_is : (n : ℕ) → before memory ops n ≡ map plain (countdown n)
  unfolding plain
  before_is zero = refl
  before_is (suc n) = ap (λ es. plain n ∷ es) (before_is n)

  from_log : (c : ℕ) (e : Issued) → In (log c) e → (k : ℕ) × (k < length ops) × (issue_cycle rows k < c)
      × (e ≡ entry plain due k)
  unfolding log
  from_log c e there =
      let at = from_map (entry plain due) (numbers_before rows c) e there in
      let early = issued_early ops rows keeps.table c at.0 at.1 in
      (at.0, early.0, early.1, sym at.2)

  in_log : (c k : ℕ) → k < length ops → issue_cycle rows k < c → In (log c) (entry plain due k)
  unfolding log
  in_log c k below early = in_map (entry plain due) (numbers_before rows c) k
      (early_issued ops rows keeps.table c k below early)

  in_arrived : (c k : ℕ) → k < length ops → due k ≤ c → In (arrived c (log c)) (entry plain due k)
  unfolding due
  in_arrived c k below over = grind (arith, due, in_filter, in_log, le-leb, log, plain, some_latency)

  from_arrived : (c : ℕ) (e : Issued) → In (arrived c (log c)) e → (k : ℕ) × (k < length ops) × (issue_cycle rows k < c)
      × (e ≡ entry plain due k)
  from_arrived c e there = from_log c e (from_filter (λ (f : Issued). nat_le f.due c) (log c) e there).0

  -- what writes is a store
  writer_stores : (a k : ℕ) → writes_to a (plain k) ≡ true → is_store (kind (op_at ops k)) ≡ true
  unfolding plain
  writer_stores a k writes = only_stores_write (op_at ops k) _ _ a writes

  -- it touches what it writes
  writer_touches : (a k : ℕ) → writes_to a (plain k) ≡ true → touched_at memory ops k ≡ Some a
  unfolding plain
  writer_touches a k writes = writes_touch (op_at ops k) _ _ a writes

  definer : (r : Reg) (k : ℕ) → defines r (plain k) ≡ true → defined (op_at ops k) ≡ Some r
  unfolding plain
  definer r k is = is_register_same r (defined (op_at ops k)) is

  stores_in_order : (a j k : ℕ) → j < k → k < length ops → writes_to a (plain j) ≡ true → writes_to a (plain k) ≡ true
      → due j < due k
  unfolding due
  stores_in_order a j k less below first second =
      let one : is_store (kind (op_at ops j)) ≡ true = writer_stores a j first in
      let other : is_store (kind (op_at ops k)) ≡ true = writer_stores a k second in
      let count : counts j k ≡ true = keeps.sound.meet j k a less below record {
        first = writer_touches a j first;
        second = writer_touches a k second;
        store = rw one refl;
      } in
      let order : issue_cycle rows j < issue_cycle rows k =
      kept_in_order lat ops rows keeps.waits j k below less (kept_where_counted _ _ _ count (store_then_store _ _ one other)) in
      grind (arith, latency_of_store)

  registers_same : (i : ℕ) → i < length ops → (r : Reg) → In (used (op_at ops i)) r
      → register_in (arrived (issue_cycle rows i) (log (issue_cycle rows i))) r ≡ register_after (before memory ops i) r
  unfolding due
  registers_same i here r uses =
      ap result_or_zero (
      look_up_same (defines r) plain due i (arrived (issue_cycle rows i) (log (issue_cycle rows i)))
      (λ e there is.
      let at = from_arrived (issue_cycle rows i) e there in
      let passes : defines r (plain at.0) ≡ true = sym (ap (λ (f : Issued). defines r f.executed) at.3) ∙ is in (
        at.0,
        keeps.renamed.defined_before i at.0 r (contains_from (used (op_at ops i)) r uses) (definer r at.0 passes),
        at.3,
      ))
      (λ k less is. in_arrived (issue_cycle rows i) k (omega arith) (in_time k less (definer r k is)))
      (λ j k less below first second.
      let same : j ≡ k = keeps.renamed.once j k r (definer r j first) (definer r k second) in absurd (omega arith))
      ∙ sym (ap (find (defines r)) (before_is i)))
    where
      in_time : (k : ℕ) → k < i → defined (op_at ops k) ≡ Some r → due k ≤ issue_cycle rows i
      in_time k less defines_it = used_in_time lat ops rows keeps.waits i k r here less uses defines_it

  words_same : (i : ℕ) → i < length ops → reads_memory (kind (op_at ops i)) ≡ true → (a : ℕ)
      → touched_at memory ops i ≡ Some a
      → word_in memory (arrived (issue_cycle rows i) (log (issue_cycle rows i))) a
      ≡ word_after memory (before memory ops i) a
  unfolding due
  words_same i here reads a touches =
      ap (written_or (word_at memory a)) (
      look_up_same (writes_to a) plain due i (arrived (issue_cycle rows i) (log (issue_cycle rows i)))
      (grind (arith, from_arrived, is_before))
      (λ k less is. in_arrived (issue_cycle rows i) k (omega arith) (in_time k less is))
      (λ j k less below first second. stores_in_order a j k less (omega arith) first second)
      ∙ sym (ap (find (writes_to a)) (before_is i)))
    where
      in_time : (k : ℕ) → k < i → writes_to a (plain k) ≡ true → due k ≤ issue_cycle rows i
      in_time k less writes =
          let stores : is_store (kind (op_at ops k)) ≡ true = writer_stores a k writes in
          stored_where_counted lat ops rows keeps.waits i k here less (keeps.sound.meet k i a less here record {
            first = writer_touches a k writes;
            second = touches;
            store = rw stores refl;
          }) stores reads

      is_before : (k : ℕ) → k < length ops → issue_cycle rows k < issue_cycle rows i → writes_to a (plain k) ≡ true
          → k < i
      is_before k below early writes = elim (cases_order k i) [
        | inl same ↦ let level : issue_cycle rows k ≡ issue_cycle rows i = ap (issue_cycle rows) same in
            absurd (omega arith)
        | inr differs ↦ elim differs [
          | inl less ↦ less
          | inr more ↦
              let stores : is_store (kind (op_at ops k)) ≡ true = writer_stores a k writes in
              let count : counts i k ≡ true = keeps.sound.meet i k a more below record {
                first = touches;
                second = writer_touches a k writes;
                store = or_right _ _ stores;
              } in
              let after : issue_cycle rows i < issue_cycle rows k =
              kept_in_order lat ops rows keeps.waits i k below more
              (kept_where_counted _ _ _ count (read_then_store _ _ reads stores)) in
              absurd (omega arith)
        ]
      ]

  -- an operation is issued as it is executed in program order
  issue_is : (i : ℕ) → i < length ops → issue lat memory (issue_cycle rows i) (log (issue_cycle rows i)) (op_at ops i)
      ≡ entry plain due i
  unfolding plain due
  issue_is i here = grind (arith, effect_used, registers_same, words_same)

  log_is : (c : ℕ) → issued_before lat memory ops rows c ≡ log c
  unfolding log
  log_is zero = refl
  log_is (suc c) =
      ap (issue_all lat memory ops c (slots (row_at rows c))) (log_is c)
      ∙ ap (λ es. es ++ log c) (map_same (λ i. issue lat memory c (log c) (op_at ops i)) (entry plain due)
      (slots (row_at rows c)) (λ i there.
      subst (λ at. issue lat memory at (log at) (op_at ops i) ≡ entry plain due i)
      (cycle_is ops rows keeps.table c i there) (issue_is i (within ops rows keeps.table c i there))))
      ∙ sym (map-append (entry plain due) (slots (row_at rows c)) (numbers_before rows c))

  -- the operations in the order of issue, the latest first
  issued : List ℕ
  issued = numbers_before rows (length rows)

  in_issued : (k : ℕ) → k < length ops → In issued k
  unfolding issued
  in_issued k below = grind (arith, early_issued, issued_within)

  from_issued : (k : ℕ) → In issued k → k < length ops
  unfolding issued
  from_issued k there = (issued_early ops rows keeps.table (length rows) k there).0

  executed_is : executed_in (log (length rows)) ≡ map plain issued
  unfolding log issued
  executed_is = executed_in-entries plain due (numbers_before rows (length rows))

  faults_same : has_fault (executed_in (log (length rows))) ≡ has_fault (before memory ops (length ops))
  faults_same = grind (arith, any_same, before_is, executed_is, from_countdown, from_issued, from_map, in_countdown, in_issued, in_map, issued, plain)

  emits : ℕ → Bool
  emits k = is_output (kind (op_at ops k))

  others_silent : (k : ℕ) → emits k ≡ false → emitted_by (plain k).effect ≡ []
  unfolding plain emits
  others_silent k not = only_outputs_emit (op_at ops k) _ _ not

  outputs_fall : (x y : ℕ) → x < length ops → y < length ops → emits x ≡ true → emits y ≡ true → ComesLater rows x y
      → y < x
  unfolding emits
  outputs_fall x y first second one other later = elim (cases_order x y) [
    | inl same ↦ absurd (later.apart same)
    | inr differs ↦ elim differs [
      | inl less ↦
          let order : issue_cycle rows x < issue_cycle rows y =
          kept_in_order lat ops rows keeps.waits x y second less (output_then_output _ _ _ one other) in
          let back : issue_cycle rows y ≤ issue_cycle rows x = later.later in
          absurd (omega arith)
      | inr more ↦ more
    ]
  ]

  same_outputs : filter emits issued ≡ filter emits (countdown (length ops))
  unfolding issued
  same_outputs =
      grind (
        arith,
        emits,
        falls_countdown,
        falls_from,
        falls_same,
        from_countdown,
        from_filter,
        from_issued,
        in_countdown,
        in_filter,
        in_issued,
        issued,
        issued_in_order,
        ordered_filter,
        outputs_fall,
      )

  outputs_same : emitted (executed_in (log (length rows))) ≡ emitted (before memory ops (length ops))
  outputs_same =
      ap emitted executed_is
      ∙ emitted_by_some plain emits issued others_silent
      ∙ ap (λ ks. emitted (map plain ks)) same_outputs
      ∙ sym (emitted_by_some plain emits (countdown (length ops)) others_silent)
      ∙ sym (ap emitted (before_is (length ops)))

  last_words_same : (a : ℕ) → word_in memory (log (length rows)) a ≡ word_after memory (before memory ops (length ops))
      a
  last_words_same a =
      ap (written_or (word_at memory a)) (
      look_up_same (writes_to a) plain due (length ops) (log (length rows))
      (λ e there is. let at = from_log (length rows) e there in (at.0, at.1, at.3))
      (λ k below is. in_log (length rows) k below (issued_within ops rows keeps.table k below))
      (stores_in_order a)
      ∙ sym (ap (find (writes_to a)) (before_is (length ops))))

  pub kept_is_plain : timed_outcome lat ops rows memory ≡ outcome ops memory
  kept_is_plain = grind (arith, faults_same, fun_ext, last_words_same, log_is, outcome_same, outputs_same)

pub timed_is_plain : (counts : Counts) (lat : Latencies) (ops : List Op) (rows : List Row) (memory : List ℤ)
    → IsRenamed ops → IsTable ops rows → WaitsWhere counts lat ops rows → IsSoundOn memory counts ops
    → timed_outcome lat ops rows memory ≡ outcome ops memory
timed_is_plain counts lat ops rows memory renamed table waits sound = grind (arith, kept_is_plain counts)
