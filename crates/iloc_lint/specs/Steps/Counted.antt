-- How the counts of blocks and operations grow by one line.
use Rattle.std.specs.Prelude.{◌≡◌, ℕ, ◌+◌, ◌≤◌, ◌<◌, Bool, true, false, ◌==◌, if◌then◌else◌, Option, option_to_list, List, [], ◌∷◌, ◌++◌, length, Result, Ok, Err}
use Rattle.iloc_ops.specs.Limits.{MAX_BLOCKS, MAX_OPS}
use Rattle.iloc_text.specs.declared.fault.ReadFault.{ReadFault}
use Rattle.iloc_text.specs.declared.fault.ReadFault.TheVariants.{TooManyBlocks, TooManyOperations}
use Rattle.iloc_text.specs.Files.{Reading, IsWithin, block_count, ops_of}
use Rattle.iloc_lint.specs.Faults.{CountsAs, ops_in}
use Rattle.iloc_lint.specs.declared.faults.counts.Counts.{Counts}

-- `counts` are the counts of lines with `readings`
pub record Count (readings : List Reading) (counts : Counts) : Type 0 where
  pub blocks : counts.blocks ≡ block_count readings
  pub last : counts.last ≡ length (ops_of (block_count readings) readings)
  pub ops : counts.ops ≡ length (ops_in readings)

-- how many blocks there are with a line that has a label and an operation or not, and how many operations the last has
abbrev pub grown : ℕ → ℕ → Bool → Bool → ℕ × ℕ
grown blocks last true op = (blocks + 1, if op then 1 else 0)
grown blocks last false false = (blocks, last)
grown blocks last false true = if blocks == 0 then (1, 1) else (blocks, last + 1)

-- with this line there are too many blocks, or too many operations of the last
abbrev pub Exceeds : List Reading → ℕ → ReadFault → Type 0
Exceeds readings n (TooManyBlocks k) = (k ≡ n) × (MAX_BLOCKS < block_count readings)
Exceeds readings n (TooManyOperations k) =
    (k ≡ n) × (block_count readings ≤ MAX_BLOCKS) × (MAX_OPS < length (ops_of (block_count readings) readings))
Exceeds readings n _ = ⊥

-- what comes of adding a line with this reading and number
abbrev pub AddsReading : List Reading → Reading → ℕ → Counts → Counts → Result (Unit {0}) ReadFault → Type 0
AddsReading before reading n old new (Ok done) = Count (before ++ reading ∷ []) new × IsWithin (before ++ reading ∷ [])
AddsReading before reading n old new (Err fault) = (new ≡ old) × Exceeds (before ++ reading ∷ []) n fault

-- after lines with the readings `before`, `line` counts as a reading and has the fault named or none, and `new` are the
-- counts with that reading
abbrev pub Judged : List Reading → List ℕ → Counts → Option ReadFault → Type 0
Judged before line new fault =
    (reading : Reading) × CountsAs before line reading (option_to_list fault) × Count (before ++ reading ∷ []) new
