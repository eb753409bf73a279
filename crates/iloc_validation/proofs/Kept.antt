-- What is tested of each operation is that the rows are a schedule under the pairing.
use Rattle.iloc_validation.proofs.Common.{◌≡◌, ℕ, ◌+◌, ◌<◌, ◌≤◌, List, length, slice_index, option_map, sym, ap, ◌∙◌, subst, arith, used, Op, op_at, kind, issue_cycle, Latencies, contains_from, in_from, issued_within, memory_delays, few_used, lists_same, sources_from_lists, given, read, reading_at, sources_of, Reading, IsKept, by_numbers, earliest, Sides, IsUnder, Row}
use Rattle.iloc_timed.specs.Limits.{MAX_ROWS}
use Rattle.iloc_validation.specs.Steps.Pairing.{LeadsBack}
use Rattle.iloc_validation.proofs.EarliestCycles.{waited_for, waits_no_more}
use Rattle.iloc_validation.proofs.OtherNumbers.{by_numbers_of}

module _ (sides : Sides) (there back : List ℕ) (origins : length there ≡ length sides.schedule.now.ops)
    (partners : length back ≡ length sides.block.items) where
  abbrev lat : Latencies
  lat = sides.latencies.now

  abbrev block : List Op
  block = sides.block.items

  abbrev ops : List Op
  ops = sides.schedule.now.ops

  abbrev rows : List Row
  rows = sides.schedule.now.rows

  abbrev readings : List Reading
  readings = sides.readings.items

  abbrev origin : ℕ → ℕ
  origin = slice_index there

  abbrev partner : ℕ → ℕ
  partner = slice_index back

  -- the cycle at which the partner of operation i is issued
  abbrev pub cycle : ℕ → ℕ
  cycle i = (reading_at readings (partner i)).cycle

  issued_at : (k : ℕ) → k < length ops → (reading_at readings k).cycle ≡ issue_cycle rows k
  issued_at k here = ap (λ (r : Reading). r.cycle) (sides.each_reading k here)

  pub issued_early : (k : ℕ) → k < length readings → (reading_at readings k).cycle ≤ MAX_ROWS
  issued_early k here = grind (arith, issued_at, issued_within)

  reads_at : (k : ℕ) → k < length ops → by_numbers origin (reading_at readings k).sources
      ≡ sources_of (λ r. option_map origin (read lat ops rows (issue_cycle rows k) r)) (used (op_at ops k))
  reads_at k here = grind (arith, by_numbers_of)

  module _ (waits : List ℕ) (each_wait : (i : ℕ) → i < length block
      → slice_index waits i ≡ earliest lat block cycle i (kind (op_at block i))) where
    pub are_kept : IsUnder sides origin partner → (k : ℕ) → k < length ops → IsKept sides waits there k
    are_kept under k here =
        let below : origin k < length block = under.paired.there k here in
        record {
          label = under.paired.labels k here;
          reads =
              reads_at k here
              ∙ sources_from_lists (λ r. option_map origin (read lat ops rows (issue_cycle rows k) r))
              (given block (origin k)) (used (op_at ops k)) (used (op_at block (origin k))) (under.reads k here)
              ∙ sym (sides.each_given (origin k) below);
          in_time =
              rw each_wait (waits_no_more lat block cycle (origin k) (kind (op_at block (origin k)))
              (reading_at readings k).cycle (λ i d before delay.
              let first : i < length block = omega arith in
              let kept : issue_cycle rows (partner i) + d ≤ issue_cycle rows (partner (origin k)) =
              under.waits i (origin k) d before below
              (contains_from (memory_delays lat (op_at block i) (op_at block (origin k))) d delay) in
              rw (issued_at (partner i) (under.paired.there_too i first), issued_at k here, ← under.paired.back k here) kept));
        }

    module _ (leads : LeadsBack there back) (returns : LeadsBack back there)
        (kept : (k : ℕ) → k < length ops → IsKept sides waits there k) where
      below : (k : ℕ) → k < length ops → origin k < length block
      below k here = let one : origin k < length back = (leads k (omega arith)).0 in omega arith

      below_too : (i : ℕ) → i < length block → partner i < length ops
      below_too i here = let one : partner i < length there = (returns i (omega arith)).0 in omega arith

      pub is_under : IsUnder sides origin partner
      is_under = record {
        table = sides.table;
        paired = record {
          there = below;
          back = λ k here. (leads k (omega arith)).1;
          there_too = below_too;
          back_too = λ i here. (returns i (omega arith)).1;
          labels = λ k here. (kept k here).label;
        };
        reads = λ k here.
            lists_same (λ r. option_map origin (read lat ops rows (issue_cycle rows k) r))
            (given block (origin k)) (used (op_at ops k)) (used (op_at block (origin k)))
            (few_used (op_at ops k)) (few_used (op_at block (origin k)))
            (sym (reads_at k here) ∙ (kept k here).reads ∙ sides.each_given (origin k) (below k here));
        waits = λ i j d before here delay.
            let first : i < length block = omega arith in
            let one : origin (partner j) ≡ j = (returns j (omega arith)).1 in
            let over : slice_index waits j ≤ (reading_at readings (partner j)).cycle =
            subst (λ n. slice_index waits n ≤ (reading_at readings (partner j)).cycle) one (kept (partner j) (below_too j here)).in_time in
            let from : earliest lat block cycle j (kind (op_at block j)) ≤ (reading_at readings (partner j)).cycle =
            rw each_wait at over in
            let waited : (reading_at readings (partner i)).cycle + d ≤ (reading_at readings (partner j)).cycle =
            waited_for lat block cycle j (kind (op_at block j)) (reading_at readings (partner j)).cycle from i d before
            (in_from (memory_delays lat (op_at block i) (op_at block j)) d delay) in
            rw (← issued_at (partner i) (below_too i first), ← issued_at (partner j) (below_too j here)) waited;
      }
