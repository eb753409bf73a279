-- A lawful schedule is by the book: each of its operations is the block's with the same number;
-- `laws::lawful_schedules_are_by_the_book`.
use Rattle.iloc_validation.proofs.Common.{◌≡◌, ◌<◌, List, map, length, option_map, sym, ap, ◌∙◌, subst, ap₂, arith, map-map, used, Op, op_at, latency, IsTable, issue_cycle, Latencies, Row, contains_from, in_from, in_right, map_same, renamed_op_at, renamed_is_renamed, delays, memory_delays, uses_result, when, IsLawful, IsRenamed, without_nops, In, given, read, ArePaired, IsByTheBook, IsScheduleUnder, memory_by}
use Rattle.std.proofs.lemmas.Iterator.Adapters.{option_map_id}
use Rattle.iloc_rules.proofs.DelayPairs.WaitedFor.{Waits}
use Rattle.iloc_validation.proofs.Labels.{label-with_registers}
use Rattle.iloc_validation.proofs.GivenReads.{new, name_at, length-new, kind_new, used_new, read_is_given}

module _ (lat : Latencies) (block : List Op) (rows : List Row) where
  pub are_paired : ArePaired block (new block) (λ k. k) (λ i. i)
  are_paired = grind (arith, label-with_registers, renamed_op_at, length-new block)

  pub under_itself : IsRenamed (new block) → IsTable (new block) rows → Waits lat (new block) rows
      → IsScheduleUnder lat block (new block) rows (λ k. k) (λ i. i)
  under_itself names table waits = record {
    table = table;
    paired = are_paired;
    reads = λ k here.
        let inside : k < length block = omega (arith, length-new block) in
        ap (map (λ r. option_map (λ i. i) (read lat (new block) rows (issue_cycle rows k) r))) (used_new block k inside)
        ∙ map-map (λ r. option_map (λ i. i) (read lat (new block) rows (issue_cycle rows k) r)) (name_at block k)
        (used (op_at block k))
        ∙ map_same (λ r. option_map (λ i. i) (read lat (new block) rows (issue_cycle rows k) (name_at block k r)))
        (given block k) (used (op_at block k))
        (λ r there. option_map_id (read lat (new block) rows (issue_cycle rows k) (name_at block k r))
        ∙ read_is_given lat block rows names table waits k r inside there);
    waits = λ i j d order here delay.
        let same : memory_delays lat (op_at (new block) i) (op_at (new block) j)
        ≡ memory_delays lat (op_at block i) (op_at block j) =
        ap₂ (memory_by lat) (kind_new block i (omega arith)) (kind_new block j here) in
        let there : In (memory_delays lat (op_at (new block) i) (op_at (new block) j)) d =
        subst (λ xs. In xs d) (sym same) (in_from (memory_delays lat (op_at block i) (op_at block j)) d delay) in
        waits i j d record {
          order = order;
          within = omega (arith, length-new block);
          delay = contains_from (delays lat (op_at (new block) i) (op_at (new block) j)) d
              (in_right (when (uses_result (op_at (new block) i) (op_at (new block) j)) (latency lat (op_at (new block) i)))
              (memory_delays lat (op_at (new block) i) (op_at (new block) j)) d there);
        };
  }

pub lawful_by_the_book : (lat : Latencies) (block ops : List Op) (rows : List Row) → IsLawful lat block ops rows
    → IsByTheBook lat block ops rows
lawful_by_the_book lat block ops rows lawful = (
  λ k. k,
  λ i. i,
  subst (λ os. IsScheduleUnder lat (without_nops block) os rows (λ k. k) (λ i. i)) (sym lawful.names)
      (under_itself lat (without_nops block) rows (renamed_is_renamed block)
      (subst (λ os. IsTable os rows) lawful.names lawful.table)
      (subst (λ os. Waits lat os rows) lawful.names lawful.waits)),
)
