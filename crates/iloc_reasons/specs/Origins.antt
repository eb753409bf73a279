-- Which operation of its block each of somebody's rows is, where the rows aren't known to be by the book.
use Rattle.std.specs.Prelude.{ℕ, ◌≡◌, ◌≢◌, ◌<◌, ◌⊎◌, ◌↔◌, List, length, map, slice_index_or, Option, Some, None}
use Rattle.iloc_ops.specs.declared.op.Op.{Op}
use Rattle.iloc_ops.specs.Registers.{used}
use Rattle.iloc_meaning.specs.Trace.{op_at}
use Rattle.iloc_timed.specs.declared.latencies.Latencies.{Latencies}
use Rattle.iloc_timed.specs.declared.row.Row.{Row}
use Rattle.iloc_timed.specs.Rows.{issue_cycle}
use Rattle.iloc_facts.specs.Facts.{AreAllSources, AreUnlike, HasLabel}
use Rattle.iloc_facts.specs.Labels.{label}
use Rattle.iloc_facts.specs.Readings.{given, read}

-- the operation of the block that is noted for operation k of the rows, if one is
abbrev pub origin_at : List (Option ℕ) → ℕ → Option ℕ
origin_at origins k = slice_index_or origins k None

-- Known by what they compute

-- Operation `k` of the rows has the label of operation `i` of the block, and reads results that are `known` to be of
-- the operations that `i` reads. Operation `i` is like no other of the rows, and operation `k` like no other of the
-- block.
pub record IsKnown (lat : Latencies) (block ops : List Op) (rows : List Row) (known : List (Option ℕ)) (i k : ℕ) : Type 0 where
  pub own : HasLabel block i (op_at ops k)
  pub reads : AreAllSources (λ j l. origin_at known l ≡ Some j) (map (given block i) (used (op_at block i)))
      (map (read lat ops rows (issue_cycle rows k)) (used (op_at ops k)))
  pub alone : (j : ℕ) → j < length block → j ≢ i → AreUnlike lat block ops rows j k
  pub alone_there : (l : ℕ) → l < length ops → l ≢ k → AreUnlike lat block ops rows i l

-- so is each for which one is noted
abbrev pub AreKnown : Latencies → List Op → List Op → List Row → List (Option ℕ) → Type 0
AreKnown lat block ops rows known = (i k : ℕ) → k < length ops → origin_at known k ≡ Some i
    → IsKnown lat block ops rows known i k

-- Known as the last of their label

-- operation i of the block has a label, and is known to be none of the rows'
abbrev pub IsFree : List Op → List (Option ℕ) → Op → ℕ → Type 0
IsFree block known op i = HasLabel block i op × ((k : ℕ) → origin_at known k ≢ Some i)

-- operation k of the rows has a label, and isn't known to be one of the block's
abbrev pub IsUnknown : List Op → List (Option ℕ) → Op → ℕ → Type 0
IsUnknown ops known op k = HasLabel ops k op × (origin_at known k ≡ None)

-- this number is the only one of which it holds
abbrev pub IsOnly : (ℕ → Type 0) → ℕ → Type 0
IsOnly Holds i = Holds i × ((j : ℕ) → Holds j → j ≡ i)

-- of one label operation i is the only one of the block that is left, and operation k the only one of the rows
abbrev pub AreLast : List Op → List Op → List (Option ℕ) → ℕ → ℕ → Type 0
AreLast block ops known i k =
    IsOnly (IsFree block known (op_at ops k)) i × IsOnly (IsUnknown ops known (op_at ops k)) k

-- Of each operation it is noted which one of the block it is: the one that it is known to be by what it computes, or else the
-- last that is left of its label, if it is the last there.
pub record AreOrigins (lat : Latencies) (block ops : List Op) (rows : List Row) (origins : List (Option ℕ)) : Type 0 where
  pub known : List (Option ℕ)
  pub known_size : length known ≡ length ops
  pub are_known : AreKnown lat block ops rows known
  pub size : length origins ≡ length ops
  pub each : (i k : ℕ) → k < length ops
      → (origin_at origins k ≡ Some i) ↔ ((origin_at known k ≡ Some i) ⊎ AreLast block ops known i k)
