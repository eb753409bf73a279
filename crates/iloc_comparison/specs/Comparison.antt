-- How what rows do compares with what their block does.
use Rattle.std.specs.Prelude.{◌≡◌, Bool, true, false, List, ℤ}
use Rattle.iloc_ops.specs.declared.op.Op.{Op}
use Rattle.iloc_meaning.specs.Outcome.{outcome}
use Rattle.iloc_timed.specs.declared.latencies.Latencies.{Latencies}
use Rattle.iloc_timed.specs.declared.row.Row.{Row}
use Rattle.iloc_timed.specs.Timed.{timed_outcome}
use Rattle.iloc_comparison.specs.declared.comparison.Comparison.{Comparison}
use Rattle.iloc_comparison.specs.declared.comparison.Comparison.TheVariants as of
use Rattle.iloc_comparison.specs.Memory.{memory_of}
use Rattle.iloc_terms.specs.Agreement.{IsMemory, AreAlike}
use Rattle.iloc_comparison.specs.Difference.{IsDifference}
use Rattle.iloc_comparison.specs.Void.{CanBeJudged, IsVoid}

-- on a memory the rows have the block's outcome or, where outputs alone are compared, show what the block shows
abbrev pub AgreesOn : Bool → Latencies → List Op → List Op → List Row → List ℤ → Type 0
AgreesOn outputs lat block ops rows memory = AreAlike outputs (timed_outcome lat ops rows memory) (outcome block memory)

-- so it is on every memory of 16,384 words of 32 bits
abbrev pub AgreesOnAll : Bool → Latencies → List Op → List Op → List Row → Type 0
AgreesOnAll outputs lat block ops rows =
    (words : List ℤ) → IsMemory words → AgreesOn outputs lat block ops rows words

-- The comparison is right, of outcomes or of outputs alone, with this memory handed in: what it says of every memory, of this
-- one or of one made up holds. Rows are compared where what the block does on this memory says something. Where nothing is
-- found out about other memories, rows that do the same on this one agree. They print where outputs alone are compared.
abbrev pub IsComparison : Bool → Latencies → List Op → List Op → List Row → List ℤ → Comparison → Type 0
IsComparison outputs lat block ops rows memory (of.Void why) = IsVoid outputs block memory why
IsComparison outputs lat block ops rows memory of.Same =
    CanBeJudged outputs block memory × AgreesOnAll false lat block ops rows
IsComparison outputs lat block ops rows memory of.Prints =
    CanBeJudged outputs block memory × (outputs ≡ true) × AgreesOnAll true lat block ops rows
IsComparison outputs lat block ops rows memory of.Agrees =
    CanBeJudged outputs block memory × AgreesOn outputs lat block ops rows memory
IsComparison outputs lat block ops rows memory (of.Differs difference) =
    CanBeJudged outputs block memory
    × IsDifference outputs (timed_outcome lat ops rows memory) (outcome block memory) difference
IsComparison outputs lat block ops rows memory (of.DiffersOn probe difference) =
    CanBeJudged outputs block memory × AgreesOn outputs lat block ops rows memory
    × IsDifference outputs (timed_outcome lat ops rows (memory_of probe)) (outcome block (memory_of probe)) difference
