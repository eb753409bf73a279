-- A lawful schedule has its block's outcome: `laws::lawful_schedules_keep_the_outcome`, `schedule` (`outcome`).
use Rattle.iloc_rules.proofs.Common.{◌≡◌, ℕ, true, List, ℤ, refl, ap, ◌∙◌, or_right, Op, outcome, timed_outcome, Latencies, Row, by_address, unless_apart, Counts, all_count, counts_by, IsSound, MemoryRule, Address, Book}
use Rattle.iloc_rules.specs.Lawful.{IsLawfulWhere, IsLawful}
use Rattle.iloc_rules.proofs.Renamed.RenamedBlocks.{renamed_is_renamed, renaming_keeps_the_outcome}
use Rattle.iloc_rules.proofs.Outcome.TimedOutcomes.{timed_is_plain}
use Rattle.iloc_rules.proofs.Outcome.ApartAddresses.{unless_apart_is_sound}

pub sound_same_outcome : (counts : Counts) (lat : Latencies) (block ops : List Op) (rows : List Row) (memory : List ℤ)
    → IsSound counts ops → IsLawfulWhere counts lat block ops rows
    → timed_outcome lat ops rows memory ≡ outcome block memory
sound_same_outcome counts lat block ops rows memory sound lawful =
    timed_is_plain counts lat ops rows memory (rw lawful.names (renamed_is_renamed block)) lawful.table lawful.waits
    (sound memory)
    ∙ ap (λ xs. outcome xs memory) lawful.names
    ∙ renaming_keeps_the_outcome block memory

-- where all count, operations that meet do
pub all_count_is_sound : (ops : List Op) → IsSound all_count ops
all_count_is_sound ops memory = record { meet = λ i j a order within both. refl }

pub lawful_same_outcome : (lat : Latencies) (block ops : List Op) (rows : List Row) (memory : List ℤ)
    → IsLawful lat block ops rows → timed_outcome lat ops rows memory ≡ outcome block memory
lawful_same_outcome lat block ops rows memory =
    sound_same_outcome all_count lat block ops rows memory (all_count_is_sound ops)

pub apart_same_outcome : (lat : Latencies) (block ops : List Op) (rows : List Row) (memory : List ℤ)
    → IsLawfulWhere (unless_apart ops) lat block ops rows → timed_outcome lat ops rows memory ≡ outcome block memory
apart_same_outcome lat block ops rows memory =
    sound_same_outcome (unless_apart ops) lat block ops rows memory (unless_apart_is_sound ops)

-- what is sound stays so where more counts
pub sound_by_more : (counts more : Counts) (ops : List Op) → ((i j : ℕ) → counts i j ≡ true → more i j ≡ true)
    → IsSound counts ops → IsSound more ops
sound_by_more counts more ops implied sound memory = record {
  meet = λ i j a order within both. implied i j ((sound memory).meet i j a order within both);
}

-- so too where stores keep their order
pub stores_kept_is_sound : (ops : List Op) → IsSound (by_address ops) ops
stores_kept_is_sound ops =
    sound_by_more (unless_apart ops) (by_address ops) ops (λ i j counts. or_right _ _ counts)
    (unless_apart_is_sound ops)

-- so whichever the rule
counts_by_is_sound : (rule : MemoryRule) (ops : List Op) → IsSound (counts_by rule ops) ops
counts_by_is_sound Book ops = all_count_is_sound ops
counts_by_is_sound Address ops = stores_kept_is_sound ops

pub ruled_same_outcome : (rule : MemoryRule) (lat : Latencies) (block ops : List Op) (rows : List Row) (memory : List ℤ)
    → IsLawfulWhere (counts_by rule ops) lat block ops rows → timed_outcome lat ops rows memory ≡ outcome block memory
ruled_same_outcome rule lat block ops rows memory =
    sound_same_outcome (counts_by rule ops) lat block ops rows memory (counts_by_is_sound rule ops)
