-- A lawful schedule is one under the pairing of each operation with the one of its number, however that is said.
use Rattle.iloc_validation.proofs.Common.{◌≡◌, ℕ, ◌<◌, List, map, length, Some, None, Option, option_map, sym, refl, ap, ◌∙◌, subst, arith, used, Op, op_at, IsTable, issue_cycle, Latencies, Row, map_same, length-renamed_by, renamed_is_renamed, IsLawful, numbering, without_nops, numbers_from_issued, read_in, label, given, read, IsScheduleUnder}
use Rattle.iloc_rules.proofs.Basics.Slots.{issued_early}
use Rattle.iloc_rules.proofs.DelayPairs.WaitedFor.{Waits}
use Rattle.iloc_validation.proofs.Lawful.{under_itself}

mapped_same : (f g : ℕ → ℕ) (o : Option ℕ) → ((k : ℕ) → o ≡ Some k → f k ≡ g k) → option_map f o ≡ option_map g o
mapped_same f g None same = refl
mapped_same f g (Some k) same = ap Some (same k refl)

-- the pairing by other words
pub under_same : (lat : Latencies) (block ops : List Op) (rows : List Row) (origin partner origin' partner' : ℕ → ℕ)
    → ((k : ℕ) → k < length ops → origin' k ≡ origin k) → ((i : ℕ) → i < length block → partner' i ≡ partner i)
    → IsScheduleUnder lat block ops rows origin partner → IsScheduleUnder lat block ops rows origin' partner'
under_same lat block ops rows origin partner origin' partner' same same_too under = record {
  table = under.table;
  paired = record {
    there = λ k here. rw (same k here) (under.paired.there k here);
    back = λ k here.
        ap partner' (same k here) ∙ same_too (origin k) (under.paired.there k here) ∙ under.paired.back k here;
    there_too = λ i here. rw (same_too i here) (under.paired.there_too i here);
    back_too = λ i here.
        ap origin' (same_too i here) ∙ same (partner i) (under.paired.there_too i here) ∙ under.paired.back_too i here;
    labels = λ k here. under.paired.labels k here ∙ ap (λ i. label (op_at block i)) (sym (same k here));
  };
  reads = λ k here.
      map_same (λ r. option_map origin' (read lat ops rows (issue_cycle rows k) r))
      (λ r. option_map origin (read lat ops rows (issue_cycle rows k) r)) (used (op_at ops k))
      (λ r uses. mapped_same origin' origin (read lat ops rows (issue_cycle rows k) r) (λ j is.
      let reads = read_in lat ops rows (issue_cycle rows k) r j is in
      same j (issued_early ops rows under.table (issue_cycle rows k) j
      (numbers_from_issued rows (issue_cycle rows k) j reads.issued)).0))
      ∙ under.reads k here
      ∙ ap (λ i. map (given block i) (used (op_at block i))) (sym (same k here));
  waits = λ i j d before here delay.
      let first : i < length block = omega arith in
      rw (same_too i first, same_too j here) (under.waits i j d before here delay);
}

-- a lawful schedule has as many operations as the block, `nop`s left out
pub lawful_count : (lat : Latencies) (block ops : List Op) (rows : List Row) → IsLawful lat block ops rows
    → length ops ≡ length (without_nops block)
lawful_count lat block ops rows lawful =
    ap length lawful.names ∙ length-renamed_by (without_nops block) (numbering (without_nops block))

pub lawful_in_order : (lat : Latencies) (block ops : List Op) (rows : List Row) (origin partner : ℕ → ℕ)
    → ((k : ℕ) → k < length ops → origin k ≡ k) → ((i : ℕ) → i < length (without_nops block) → partner i ≡ i)
    → IsLawful lat block ops rows → IsScheduleUnder lat (without_nops block) ops rows origin partner
lawful_in_order lat block ops rows origin partner same same_too lawful =
    under_same lat (without_nops block) ops rows (λ k. k) (λ i. i) origin partner same same_too
    (subst (λ os. IsScheduleUnder lat (without_nops block) os rows (λ k. k) (λ i. i)) (sym lawful.names)
    (under_itself lat (without_nops block) rows (renamed_is_renamed block)
    (subst (λ os. IsTable os rows) lawful.names lawful.table)
    (subst (λ os. Waits lat os rows) lawful.names lawful.waits)))
