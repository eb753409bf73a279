-- Pairings as the code has them: lists of numbers.
use Rattle.std.specs.Prelude.{ℕ, ◌≡◌, ◌<◌, ◌≤◌, List, length, slice_index}
use Rattle.iloc_meaning.specs.Trace.{op_at}
use Rattle.iloc_facts.specs.declared.sides.Sides.{Sides}
use Rattle.iloc_facts.specs.Labels.{label}
use Rattle.iloc_facts.specs.Readings.{reading_at, sources_at}
use Rattle.iloc_validation.specs.ByTheBook.{IsScheduleUnder}
use Rattle.iloc_validation.specs.Steps.Sources.{by_numbers}

-- each number leads to a place from which the other list leads back
abbrev pub LeadsBack : List ℕ → List ℕ → Type 0
LeadsBack there back = (k : ℕ) → k < length there
    → (slice_index there k < length back) × (slice_index back (slice_index there k) ≡ k)

-- under this pairing the rows are a schedule of the block
abbrev pub IsUnder : Sides → (ℕ → ℕ) → (ℕ → ℕ) → Type 0
IsUnder sides = IsScheduleUnder sides.latencies.now sides.block.items sides.schedule.now.ops sides.schedule.now.rows

-- operation `k` of the rows has the label of its origin, reads what the origin reads, and isn't issued before `waits`
-- are over
pub record IsKept (sides : Sides) (waits origin : List ℕ) (k : ℕ) : Type 0 where
  pub label : label (op_at sides.schedule.now.ops k) ≡ label (op_at sides.block.items (slice_index origin k))
  pub reads : by_numbers (slice_index origin) (reading_at sides.readings.items k).sources
      ≡ sources_at sides.givens.items (slice_index origin k)
  pub in_time : slice_index waits (slice_index origin k) ≤ (reading_at sides.readings.items k).cycle
