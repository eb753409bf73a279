-- Which lines of a text the grammar refuses: all of them. A line that is refused counts as an empty one for the lines
-- after it.
use Rattle.std.specs.Prelude.{◌≡◌, ◌⊎◌, ℕ, ◌+◌, ◌≤◌, ◌<◌, None, List, [], ◌∷◌, ◌++◌, length, map}
use Rattle.std.specs.List.{filter_map}
use Rattle.iloc_ops.specs.Limits.{MAX_INPUT}
use Rattle.iloc_ops.specs.declared.op.Op.{Op}
use Rattle.iloc_text.specs.declared.fault.ReadFault.{ReadFault}
use Rattle.iloc_text.specs.declared.fault.ReadFault.TheVariants.{InputTooLong}
use Rattle.iloc_text.specs.Grammar.{Reads}
use Rattle.iloc_text.specs.Files.{AreLines, Reading, IsWithin, IsFaulty, block_count}

-- what an empty line reads as
abbrev pub empty : Reading
empty = record { label = None; op = None }

-- After lines with the readings `before`, `line` counts as `reading` and has the faults of the list: it reads so and
-- has none, or it is refused for one and counts as empty.
abbrev pub CountsAs : List Reading → List ℕ → Reading → List ReadFault → Type 0
CountsAs before line reading [] = Reads line reading.label reading.op × IsWithin (before ++ reading ∷ [])
CountsAs before line reading (fault ∷ []) = IsFaulty before line (length before + 1) fault × (reading ≡ empty)
CountsAs before line reading (fault ∷ other ∷ more) = ⊥

-- a line that is refused, and why, with its number
pub record Refusal : Type 0 where
  pub line : List ℕ
  pub fault : ReadFault

-- after lines with the readings `before`, the lines count as the other readings, and the ones that are refused are
-- `refusals`
abbrev pub AreRefused : List Reading → List (List ℕ) → List Reading → List Refusal → Type 0
AreRefused before [] [] refusals = refusals ≡ []
AreRefused before [] (reading ∷ readings) refusals = ⊥
AreRefused before (line ∷ lines) [] refusals = ⊥
AreRefused before (line ∷ lines) (reading ∷ readings) refusals =
    (own : List ReadFault) × (rest : List Refusal) × CountsAs before line reading own
    × AreRefused (before ++ reading ∷ []) lines readings rest
    × (refusals ≡ map (λ fault. record { line = line; fault = fault }) own ++ rest)

-- the operations of the lines
abbrev pub ops_in : List Reading → List Op
ops_in readings = filter_map (λ r. r.op) readings

-- the lines of `refusals` of a text within the limit are refused, and the others make `blocks` blocks and `ops`
-- operations
pub record HasFaults (input : List ℕ) (refusals : List Refusal) (blocks ops : ℕ) : Type 0 where
  pub short : length input ≤ MAX_INPUT
  pub lines : List (List ℕ)
  pub are_lines : AreLines input lines
  pub readings : List Reading
  pub refused : AreRefused [] lines readings refusals
  pub blocks_are : blocks ≡ block_count readings
  pub ops_are : ops ≡ length (ops_in readings)

-- of a text that is too long no line is looked at
pub record IsTooLong (input : List ℕ) (refusals : List Refusal) (blocks ops : ℕ) : Type 0 where
  pub long : MAX_INPUT < length input
  pub refused : refusals ≡ record { line = []; fault = InputTooLong } ∷ []
  pub no_blocks : blocks ≡ 0
  pub no_ops : ops ≡ 0

-- all that is wrong with a text, and how much the rest of it holds
abbrev pub IsLinted : List ℕ → List Refusal → ℕ → ℕ → Type 0
IsLinted input refusals blocks ops = HasFaults input refusals blocks ops ⊎ IsTooLong input refusals blocks ops
