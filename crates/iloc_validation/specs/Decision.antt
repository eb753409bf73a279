-- What is decided of rows that somebody made for a block.
use Rattle.std.specs.Prelude.{◌≡◌, List, length, slice_index}
use Rattle.iloc_ops.specs.declared.op.Op.{Op}
use Rattle.iloc_timed.specs.declared.latencies.Latencies.{Latencies}
use Rattle.iloc_timed.specs.declared.row.Row.{Row}
use Rattle.iloc_rules.specs.Renaming.{without_nops}
use Rattle.iloc_facts.specs.Counts.{AreItsOperations}
use Rattle.iloc_validation.specs.declared.pairing.Pairing.{Pairing}
use Rattle.iloc_validation.specs.declared.decision.Decision.{Decision}
use Rattle.iloc_validation.specs.declared.decision.Decision.TheVariants.{Lawful, Unlawful, Undecided}
use Rattle.iloc_validation.specs.ByTheBook.{IsScheduleUnder, IsByTheBook}

-- by `pairing`, which has a partner for each operation of `block`, the rows are a schedule of `block`
pub record IsScheduleBy (lat : Latencies) (block ops : List Op) (rows : List Row) (pairing : Pairing) : Type 0 where
  pub size : length pairing.partner.items ≡ length block
  pub under : IsScheduleUnder lat block ops rows (slice_index pairing.origin.items) (slice_index pairing.partner.items)

-- the pairing makes the rows a schedule by the book; none does; or neither is known, and nothing is left out or added
abbrev pub IsDecision : Latencies → List Op → List Op → List Row → Decision → Type 0
IsDecision lat block ops rows (Lawful pairing) = IsScheduleBy lat (without_nops block) ops rows pairing
IsDecision lat block ops rows Unlawful = IsByTheBook lat block ops rows → ⊥
IsDecision lat block ops rows Undecided = AreItsOperations (without_nops block) ops

-- a pairing is found
abbrev pub IsFoundLawful : Decision → Type 0
IsFoundLawful decision = (pairing : Pairing) × (decision ≡ Lawful pairing)
