-- What is decided of rows, under pairings with the operations of a block that has no `nop`s.
use Rattle.std.specs.Prelude.{ℕ, ◌≡◌, List, length, Option, Some, None, ⊤}
use Rattle.iloc_validation.specs.declared.backtracking.Found.{Found}
use Rattle.iloc_validation.specs.declared.backtracking.Found.TheVariants.{Paired, NoPartner}
use Rattle.iloc_validation.specs.declared.colours.Coloured.{Coloured}
use Rattle.iloc_validation.specs.declared.decision.Decision.{Decision}
use Rattle.iloc_validation.specs.declared.pairing.Pairing.{Pairing}
use Rattle.iloc_facts.specs.Counts.{AreItsOperations}
use Rattle.iloc_facts.specs.declared.sides.Sides.{Sides}
use Rattle.iloc_validation.specs.declared.decision.Decision.TheVariants.{Lawful, Unlawful, Undecided}
use Rattle.iloc_validation.specs.Decision.{IsScheduleBy}
use Rattle.iloc_validation.specs.Steps.Colours.{AreKept, AreKeptByNone}
use Rattle.iloc_validation.specs.Steps.Pairing.{IsUnder}

-- this pairing makes the rows a schedule
abbrev pub IsPairing : Sides → Pairing → Type 0
IsPairing sides = IsScheduleBy sides.latencies.now sides.block.items sides.schedule.now.ops sides.schedule.now.rows

-- no pairing makes the rows a schedule
abbrev pub IsExcluded : Sides → Type 0
IsExcluded sides = (origin partner : ℕ → ℕ) → IsUnder sides origin partner → ⊥

-- this pairing makes the rows a schedule; none does; or neither is known, and nothing is left out or added
abbrev pub IsDecisionOf : Sides → Decision → Type 0
IsDecisionOf sides (Lawful pairing) = IsPairing sides pairing
IsDecisionOf sides Unlawful = IsExcluded sides
IsDecisionOf sides Undecided = AreItsOperations sides.block.items sides.schedule.now.ops

-- colours that every pairing keeps, as many as there are operations
pub record KeptColours (sides : Sides) (colours : Coloured) : Type 0 where
  pub here_size : length colours.here.items ≡ length sides.block.items
  pub there_size : length colours.there.items ≡ length sides.schedule.now.ops
  pub kept : AreKept sides colours.here.items colours.there.items

-- colours that every pairing keeps; or none, where there is no pairing
abbrev pub AreKeptColours : Sides → Option Coloured → Type 0
AreKeptColours sides None = IsExcluded sides
AreKeptColours sides (Some colours) = KeptColours sides colours

-- a pairing that is found has a number for each operation
abbrev pub IsFoundFor : ℕ → ℕ → Found → Type 0
IsFoundFor block rows (Paired it) = (length it.origin.items ≡ rows) × (length it.partner.items ≡ block)
IsFoundFor block rows (NoPartner i) = ⊤

-- this pairing makes the rows a schedule, or nothing is said
abbrev pub IsFoundDecision : Sides → Decision → Type 0
IsFoundDecision sides (Lawful pairing) = IsPairing sides pairing
IsFoundDecision sides Unlawful = ⊥
IsFoundDecision sides Undecided = Unit

-- a pairing is named and makes the rows a schedule; or no pairing that keeps the colours `here` and `there` does; or
-- nothing is said
abbrev pub IsDecisionAmong : Sides → List ℕ → List ℕ → Decision → Type 0
IsDecisionAmong sides here there (Lawful pairing) = IsPairing sides pairing
IsDecisionAmong sides here there Unlawful = AreKeptByNone sides here there
IsDecisionAmong sides here there Undecided = Unit
