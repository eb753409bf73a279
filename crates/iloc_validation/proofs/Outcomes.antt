-- What rows by the book have in common with the lawful schedule that has the block's own operations in their slots; for
-- `laws::by_the_book_keeps_the_outcome`, and in the judge for `laws::by_the_book_takes_the_least`.
use Rattle.iloc_validation.proofs.Common.{◌≡◌, ℕ, zero, suc, ◌+◌, ◌<◌, ◌≤◌, List, map, length, ℤ, IsTrue, Some, None, Option, option_map, sym, refl, ap, ◌∙◌, subst, ap₂, inl, inr, arith, leb-true, cases_eq, map-map, range_with_len, used, Op, Reg, effect, outcome, op_at, result_of, kind, latency, latency_of, IsTable, issue_cycle, keeps_units, row_at, slots, times_issued, Issued, register_in, timed_outcome, word_in, Latencies, Row, fold_max_each, fold_max_reached, contains_from, from_any, from_append, from_map, from_range, in_from, in_map, in_range_from, map_same, is_register_same, within, renamed_op_at, renamed_is_renamed, delays, memory_delays, uses_result, when, IsLawful, IsRenamed, name_of, numbering, renamed, source, without_nops, Result, In, log_is, numbers_from_issued, read_in, register_is_read, value_of, due, given, read, result_in, IsByTheBook, IsScheduleUnder, renumber, memory_by}
use Rattle.iloc_meaning.proofs.Effects.{effect-with_registers}
use Rattle.iloc_timed.specs.Cycles.{cycles}
use Rattle.iloc_timed.specs.Timed as timed
use Rattle.iloc_rules.proofs.Basics.Slots.{issued_early}
use Rattle.iloc_rules.proofs.DelayPairs.WaitedFor.{Waits}
use Rattle.iloc_rules.proofs.Outcome.LawfulOutcomes.{lawful_same_outcome}
use Rattle.iloc_rules.proofs.DelayPairs.DelayBounds.{from_when}
use Rattle.iloc_validation.proofs.Labels.{kind-with_registers, same_kind, same_effect}
use Rattle.iloc_validation.proofs.Alike.{AlikeAll, alike_map, words_alike, arrived_alike, outcome_alike}
use Rattle.iloc_facts.proofs.Issues.{issued_at}
use Rattle.iloc_validation.proofs.GivenReads.{new, name_at, length-new, kind_new, used_new, named_source, read_is_given}
use Rattle.iloc_validation.proofs.Renumbered.{length-renumber, row_at-map, slots_at-map, numbers_before-map, AreApartBelow, AreBelow, times_same, cycle_same, units_same}

some_mapped : (f : ℕ → ℕ) (o : Option ℕ) (i : ℕ) → option_map f o ≡ Some i → (k : ℕ) × (o ≡ Some k) × (f k ≡ i)
some_mapped f None i is = absurd (let no : None ≡ Some i = is in cc)
some_mapped f (Some k) i is = (k, refl, cc)

moved : (e e' : ℕ → Issued) (f : ℕ → ℕ) (o : Option ℕ)
    → ((k : ℕ) → o ≡ Some k → (e k).executed.effect ≡ (e' (f k)).executed.effect)
    → value_of e o ≡ value_of e' (option_map f o)
moved e e' f None same = refl
moved e e' f (Some k) same = ap result_of (same k refl)

module _ (lat : Latencies) (block ops : List Op) (rows : List Row) (origin partner : ℕ → ℕ) (names : IsRenamed (new block))
    (by : IsScheduleUnder lat block ops rows origin partner) where
  -- the block's own numbers in the same slots
  abbrev pub own_rows : List Row
  own_rows = map (renumber origin) rows

  apart : AreApartBelow (length ops) origin
  apart j k first second same = sym (by.paired.back j first) ∙ ap partner same ∙ by.paired.back k second

  below : AreBelow (length ops) rows
  below c k there = within ops rows by.table c k there

  kinds : (k : ℕ) → k < length ops → kind (op_at (new block) (origin k)) ≡ kind (op_at ops k)
  kinds k here = grind (arith, kind-with_registers, renamed_op_at, same_kind)

  own_table : IsTable (new block) own_rows
  own_table = record {
    in_range = λ c i there.
        let at = from_map origin (slots (row_at rows c)) i
        (subst (λ xs. In xs i) (slots_at-map origin rows c) (in_from (slots (row_at own_rows c)) i there)) in
        let early : origin at.0 < length block = by.paired.there at.0 (below c at.0 at.1) in
        subst (λ m. m < length (new block)) at.2 (omega (arith, length-new block));
    once = λ i here.
        let inside : i < length block = omega (arith, length-new block) in
        let other : partner i < length ops = by.paired.there_too i inside in
        subst (λ m. times_issued own_rows m ≡ 1) (by.paired.back_too i inside)
        (times_same (length ops) origin apart (partner i) other rows below ∙ by.table.once (partner i) other);
    units = λ c. subst IsTrue (sym (
        ap (keeps_units (new block)) (row_at-map origin rows c)
        ∙ units_same ops (new block) origin (row_at rows c) (λ k there. kinds k (below c k there)))) (by.table.units c);
  }

  own_cycle : (k : ℕ) → k < length ops → issue_cycle own_rows (origin k) ≡ issue_cycle rows k
  own_cycle k here = cycle_same (length ops) origin apart k here rows below

  cycle_of_partner : (i : ℕ) → i < length block → issue_cycle own_rows i ≡ issue_cycle rows (partner i)
  cycle_of_partner i here = subst (λ m. issue_cycle own_rows m ≡ issue_cycle rows (partner i)) (by.paired.back_too i here)
      (own_cycle (partner i) (by.paired.there_too i here))

  kind_of_partner : (i : ℕ) → i < length block → kind (op_at (new block) i) ≡ kind (op_at ops (partner i))
  kind_of_partner i here = subst (λ m. kind (op_at (new block) m) ≡ kind (op_at ops (partner i))) (by.paired.back_too i here)
      (kinds (partner i) (by.paired.there_too i here))

  reads_of : (j : ℕ) → j < length block
      → map (λ r. option_map origin (read lat ops rows (issue_cycle rows (partner j)) r)) (used (op_at ops (partner j)))
      ≡ map (given block j) (used (op_at block j))
  reads_of j here = grind arith

  -- what is read in the block has arrived
  result_in_time : (i j : ℕ) (r : Reg) → j < length block → In (used (op_at block j)) r → source block j r ≡ Result i
      → issue_cycle rows (partner i) + latency lat (op_at ops (partner i)) ≤ issue_cycle rows (partner j)
  result_in_time i j r here uses is =
      let wanted : In (map (given block j) (used (op_at block j))) (Some i) =
      subst (In (map (given block j) (used (op_at block j)))) (ap result_in is)
      (in_map (given block j) (used (op_at block j)) r uses) in
      let found = from_map (λ q. option_map origin (read lat ops rows (issue_cycle rows (partner j)) q))
      (used (op_at ops (partner j))) (Some i) (subst (λ xs. In xs (Some i)) (sym (reads_of j here)) wanted) in
      let at = some_mapped origin (read lat ops rows (issue_cycle rows (partner j)) found.0) i found.2 in
      let reads = read_in lat ops rows (issue_cycle rows (partner j)) found.0 at.0 at.1 in
      let early = issued_early ops rows by.table (issue_cycle rows (partner j)) at.0
      (numbers_from_issued rows (issue_cycle rows (partner j)) at.0 reads.issued) in
      let one : at.0 ≡ partner i = sym (by.paired.back at.0 early.0) ∙ ap partner at.2 in
      subst (λ k. issue_cycle rows k + latency lat (op_at ops k) ≤ issue_cycle rows (partner j)) one
      (leb-true (due lat ops rows at.0) (issue_cycle rows (partner j)) reads.over)

  by_registers : (i j d : ℕ) → i < length block → j < length block
      → In (when (uses_result (op_at (new block) i) (op_at (new block) j)) (latency lat (op_at (new block) i))) d
      → issue_cycle rows (partner i) + d ≤ issue_cycle rows (partner j)
  by_registers i j d first second there =
      grind (
        arith,
        from_any,
        from_map,
        from_when,
        is_register_same,
        kind_of_partner,
        named_source,
        result_in_time,
        used_new,
      )

  own_waits : Waits lat (new block) own_rows
  own_waits i j d pair =
      let second : j < length block = let far : j < length (new block) = pair.within in omega (arith, length-new block) in
      let first : i < length block = let order : i < j = pair.order in omega arith in
      let kept : issue_cycle rows (partner i) + d ≤ issue_cycle rows (partner j) =
      elim (from_append (when (uses_result (op_at (new block) i) (op_at (new block) j)) (latency lat (op_at (new block) i)))
      (memory_delays lat (op_at (new block) i) (op_at (new block) j)) d
      (in_from (delays lat (op_at (new block) i) (op_at (new block) j)) d pair.delay)) [
        | inl there ↦ by_registers i j d first second there
        | inr there ↦
            let same : memory_delays lat (op_at (new block) i) (op_at (new block) j)
            ≡ memory_delays lat (op_at block i) (op_at block j) =
            ap₂ (memory_by lat) (kind_new block i first) (kind_new block j second) in
            by.waits i j d pair.order second (contains_from (memory_delays lat (op_at block i) (op_at block j)) d
            (subst (λ xs. In xs d) same there))
      ] in
      rw (cycle_of_partner i first, cycle_of_partner j second) kept

  -- on each memory both logs go in step

  module _ (memory : List ℤ) where
    abbrev theirs : ℕ → Issued
    theirs k = issued_at lat ops rows memory k

    abbrev own : ℕ → Issued
    own i = issued_at lat (new block) own_rows memory i

    same_due : (k : ℕ) → k < length ops → (theirs k).due ≡ (own (origin k)).due
    unfolding issued_at
    same_due k here = ap₂ (λ x y. x + y) (sym (own_cycle k here)) (sym (ap (latency_of lat) (kinds k here)))

    abbrev SameUpTo : ℕ → Type 0
    SameUpTo c = (k : ℕ) → k < length ops → issue_cycle rows k < c
        → (theirs k).executed.effect ≡ (own (origin k)).executed.effect

    logs_alike : (c : ℕ) → SameUpTo c
        → AlikeAll (timed.issued_before lat memory ops rows c) (timed.issued_before lat memory (new block) own_rows c)
    logs_alike c same = grind (arith, alike_map, issued_early, log_is, map-map, numbers_before-map, own_table, same_due)

    -- the values of registers before cycle c
    abbrev values : ℕ → Reg → ℤ
    values c r = register_in (timed.arrived c (timed.issued_before lat memory ops rows c)) r

    abbrev own_values : ℕ → Reg → ℤ
    own_values c r = register_in (timed.arrived c (timed.issued_before lat memory (new block) own_rows c)) r

    value_moved : (c : ℕ) (r : Reg) → SameUpTo c → values c r ≡ value_of own (option_map origin (read lat ops rows c r))
    value_moved c r same =
        register_is_read lat ops rows memory by.table c r
        ∙ moved theirs own origin (read lat ops rows c r) (λ k is.
        let reads = read_in lat ops rows c r k is in
        let early = issued_early ops rows by.table c k (numbers_from_issued rows c k reads.issued) in
        same k early.0 early.1)

    value_given : (i : ℕ) (r : Reg) → i < length block → In (used (op_at block i)) r
        → own_values (issue_cycle own_rows i) (name_at block i r) ≡ value_of own (given block i r)
    value_given i r here uses =
        register_is_read lat (new block) own_rows memory own_table (issue_cycle own_rows i) (name_at block i r)
        ∙ ap (value_of own) (read_is_given lat block own_rows names own_table own_waits i r here uses)

    same_reads : (k : ℕ) → k < length ops → SameUpTo (issue_cycle rows k)
        → map (values (issue_cycle rows k)) (used (op_at ops k))
        ≡ map (λ r. own_values (issue_cycle own_rows (origin k)) (name_at block (origin k) r)) (used (op_at block (origin k)))
    same_reads k here same =
        map_same (values (issue_cycle rows k))
        (λ r. value_of own (option_map origin (read lat ops rows (issue_cycle rows k) r))) (used (op_at ops k))
        (λ r there. value_moved (issue_cycle rows k) r same)
        ∙ sym (map-map (value_of own) (λ r. option_map origin (read lat ops rows (issue_cycle rows k) r))
        (used (op_at ops k)))
        ∙ ap (map (value_of own)) (by.reads k here)
        ∙ map-map (value_of own) (given block (origin k)) (used (op_at block (origin k)))
        ∙ map_same (λ r. value_of own (given block (origin k) r))
        (λ r. own_values (issue_cycle own_rows (origin k)) (name_at block (origin k) r)) (used (op_at block (origin k)))
        (λ r there. sym (value_given (origin k) r (by.paired.there k here) there))

    same_words : (k : ℕ) → k < length ops → SameUpTo (issue_cycle rows k) → (a : ℕ)
        → word_in memory (timed.arrived (issue_cycle rows k) (timed.issued_before lat memory ops rows (issue_cycle rows k))) a
        ≡ word_in memory (timed.arrived (issue_cycle own_rows (origin k))
        (timed.issued_before lat memory (new block) own_rows (issue_cycle own_rows (origin k)))) a
    same_words k here same a = grind (arith, arrived_alike, logs_alike, own_cycle, words_alike)

    one_effect : (k : ℕ) → k < length ops → SameUpTo (issue_cycle rows k)
        → (theirs k).executed.effect ≡ (own (origin k)).executed.effect
    unfolding issued_at
    one_effect k here same =
        same_effect (op_at ops k) (op_at block (origin k)) _
        (λ r. own_values (issue_cycle own_rows (origin k)) (name_at block (origin k) r)) _ _ (by.paired.labels k here)
        (same_reads k here same) (same_words k here same)
        ∙ sym (effect-with_registers (name_at block (origin k)) (name_of (numbering block) (Result (origin k)))
        (op_at block (origin k)) (own_values (issue_cycle own_rows (origin k))) _)
        ∙ ap (λ op. effect op (own_values (issue_cycle own_rows (origin k)))
        (word_in memory (timed.arrived (issue_cycle own_rows (origin k))
        (timed.issued_before lat memory (new block) own_rows (issue_cycle own_rows (origin k))))))
        (sym (renamed_op_at block (numbering block) (origin k) (by.paired.there k here)))

    all_effects : (c : ℕ) → SameUpTo c
    all_effects zero k here early = absurd (omega arith)
    all_effects (suc c) k here early = elim (cases_eq (issue_cycle rows k) c) [
      | inl last ↦ one_effect k here (subst SameUpTo (sym last) (all_effects c))
      | inr other ↦ all_effects c k here (omega arith)
    ]

    pub own_outcome : timed_outcome lat ops rows memory ≡ timed_outcome lat (new block) own_rows memory
    own_outcome = grind (arith, all_effects, length-renumber, logs_alike, outcome_alike)

  -- the cycles are the same, of which one direction is needed
  pub own_cycles : cycles lat (new block) own_rows ≤ cycles lat ops rows
  own_cycles = elim (fold_max_reached 0 (map (λ i. issue_cycle own_rows i + latency lat (op_at (new block) i))
      (range_with_len 0 (length (new block))))) [
        | inl none ↦ rw none (omega arith)
        | inr some ↦
            let at = from_map (λ i. issue_cycle own_rows i + latency lat (op_at (new block) i))
            (range_with_len 0 (length (new block))) _ some in
            let inside : (0 ≤ at.0) × (at.0 < 0 + length (new block)) = from_range 0 (length (new block)) at.0 at.1 in
            let here : at.0 < length block = omega (arith, length-new block, inside.1) in
            let other : partner at.0 < length ops = by.paired.there_too at.0 here in
            let level : issue_cycle own_rows at.0 + latency lat (op_at (new block) at.0)
            ≡ issue_cycle rows (partner at.0) + latency lat (op_at ops (partner at.0)) =
            ap₂ (λ x y. x + y) (cycle_of_partner at.0 here) (ap (latency_of lat) (kind_of_partner at.0 here)) in
            subst (λ n. n ≤ cycles lat ops rows) (sym level ∙ at.2)
            (fold_max_each 0 (map (λ k. issue_cycle rows k + latency lat (op_at ops k)) (range_with_len 0 (length ops))) _
            (in_map (λ k. issue_cycle rows k + latency lat (op_at ops k)) (range_with_len 0 (length ops)) (partner at.0)
            (in_range_from 0 (length ops) (partner at.0) (omega arith) (omega arith))))
      ]

-- with its own operations in the same slots the block has a lawful schedule
pub own_lawful : (lat : Latencies) (block ops : List Op) (rows : List Row) → (by : IsByTheBook lat block ops rows)
    → IsLawful lat block (renamed block) (map (renumber by.0) rows)
own_lawful lat block ops rows by = record {
  names = refl;
  table = own_table lat (without_nops block) ops rows by.0 by.1 (renamed_is_renamed block) by.2;
  waits = own_waits lat (without_nops block) ops rows by.0 by.1 (renamed_is_renamed block) by.2;
}

pub keeps_the_outcome : (lat : Latencies) (block ops : List Op) (rows : List Row) (memory : List ℤ)
    → IsByTheBook lat block ops rows → timed_outcome lat ops rows memory ≡ outcome block memory
keeps_the_outcome lat block ops rows memory by =
    own_outcome lat (without_nops block) ops rows by.0 by.1 (renamed_is_renamed block) by.2 memory
    ∙ lawful_same_outcome lat block (renamed block) (map (renumber by.0) rows) memory (own_lawful lat block ops rows by)
