-- Which file a text denotes, and which refusal: by counting over its lines.
use Rattle.std.specs.Prelude.{◌≡◌, ℕ, ◌+◌, ◌≤◌, ◌<◌, Bool, false, not, ◌&&◌, ◌||◌, ◌==◌, if◌then◌else◌, Option, Some, None, is_some, List, [], ◌∷◌, ◌++◌, length, map}
use Rattle.std.specs.List.{AllByRecursion, join_with_byte, filter_map}
use Rattle.iloc_ops.specs.declared.op.Op.{Op}
use Rattle.iloc_ops.specs.declared.file.Block.{Block}
use Rattle.iloc_text.specs.declared.fault.ReadFault.{ReadFault}
use Rattle.iloc_text.specs.declared.fault.ReadFault.TheVariants.{InputTooLong, BadLine, NumberTooLarge, TooManyBlocks, TooManyOperations, NoMemory}
use Rattle.iloc_text.specs.Grammar.{Reads, HasReading, HasWideReading}
use Rattle.iloc_ops.specs.Limits.{MAX_INPUT, MAX_BLOCKS, MAX_OPS}

-- Lines

abbrev pub HasNoLineEnd : List ℕ → Type 0
HasNoLineEnd line = AllByRecursion (λ c. c ≡ 10 → ⊥) line

-- the lines, none of which has a line end, are the input when a line end is put between each two
pub record AreLines (input : List ℕ) (lines : List (List ℕ)) : Type 0 where
  pub some : 0 < length lines
  pub each : AllByRecursion HasNoLineEnd lines
  pub whole : input ≡ join_with_byte 10 lines

-- what a line reads as
pub record Reading : Type 0 where
  pub label : Option (List ℕ)
  pub op : Option Op

-- the lines read as the readings, one by one
abbrev pub ReadAs : List (List ℕ) → List Reading → Type 0
ReadAs [] [] = Unit {0}
ReadAs [] (r ∷ rs) = ⊥
ReadAs (line ∷ lines) [] = ⊥
ReadAs (line ∷ lines) (r ∷ rs) = Reads line r.label r.op × ReadAs lines rs

-- Blocks

-- the labels, in order
abbrev pub labels : List Reading → List (List ℕ)
labels rs = filter_map (λ r. r.label) rs

-- an operation comes before every label
abbrev pub opens_unnamed : List Reading → Bool
opens_unnamed [] = false
opens_unnamed (r ∷ rs) = not (is_some r.label) && (is_some r.op || opens_unnamed rs)

-- the names of the blocks, in order: that of the unnamed block, if there is one, and the labels
unfoldable pub block_names : List Reading → List (Option (List ℕ))
block_names rs = (if opens_unnamed rs then None ∷ [] else []) ++ map (λ name. Some name) (labels rs)

-- how many blocks there are: the unnamed one, if there is one, and one for each label
unfoldable pub block_count : List Reading → ℕ
block_count rs = (if opens_unnamed rs then 1 else 0) + length (labels rs)

-- the lines up to the first, up to the second, and so on
abbrev pub fronts : List Reading → List (List Reading)
fronts [] = []
fronts (r ∷ rs) = (r ∷ []) ∷ map (λ front. r ∷ front) (fronts rs)

-- the operation of the last line
abbrev pub last_op : List Reading → Option Op
last_op [] = None
last_op (r ∷ []) = r.op
last_op (r ∷ s ∷ rs) = last_op (s ∷ rs)

-- the operations of block k, counted from 1, in the order of their lines: an operation belongs to the
-- block whose number is that of the blocks up to its line
unfoldable pub ops_of : ℕ → List Reading → List Op
ops_of k rs = filter_map (λ front. if block_count front == k then last_op front else None) (fronts rs)

abbrev pub blocks_from : ℕ → List (Option (List ℕ)) → List Reading → List Block
blocks_from k [] rs = []
blocks_from k (name ∷ names) rs = record { name = name; ops = ops_of k rs } ∷ blocks_from (k + 1) names rs

-- the blocks of a file
unfoldable pub file_of : List Reading → List Block
file_of rs = blocks_from 1 (block_names rs) rs

-- Limits

-- the last line makes neither too many blocks nor too many operations of its block
pub record IsWithin (rs : List Reading) : Type 0 where
  pub blocks : block_count rs ≤ MAX_BLOCKS
  pub operations : length (ops_of (block_count rs) rs) ≤ MAX_OPS

-- so it is at each line
abbrev pub NoneFaulty : List Reading → Type 0
NoneFaulty rs = AllByRecursion IsWithin (fronts rs)

-- Files and refusals

-- at most 65,535 blocks, each of at most 10,000 operations
abbrev pub AreWithinLimits : List Block → Type 0
AreWithinLimits blocks = (length blocks ≤ MAX_BLOCKS) × AllByRecursion (λ b. length b.ops ≤ MAX_OPS) blocks

-- the bytes denote the blocks
pub record Denotes (input : List ℕ) (blocks : List Block) : Type 0 where
  pub short : length input ≤ MAX_INPUT
  pub lines : List (List ℕ)
  pub are_lines : AreLines input lines
  pub readings : List Reading
  pub read : ReadAs lines readings
  pub none_faulty : NoneFaulty readings
  pub file : blocks ≡ file_of readings

-- `line`, after lines with the readings `rs`, reads as a line that makes one block or one operation too many
pub record StartsTooManyBlocks (rs : List Reading) (line : List ℕ) : Type 0 where
  pub reading : Reading
  pub read : Reads line reading.label reading.op
  pub blocks : MAX_BLOCKS < block_count (rs ++ reading ∷ [])

pub record HoldsTooManyOperations (rs : List Reading) (line : List ℕ) : Type 0 where
  pub reading : Reading
  pub read : Reads line reading.label reading.op
  pub blocks : block_count (rs ++ reading ∷ []) ≤ MAX_BLOCKS
  pub operations : MAX_OPS < length (ops_of (block_count (rs ++ reading ∷ [])) (rs ++ reading ∷ []))

-- line `n`, after lines with the readings `rs`, has this fault
abbrev pub IsFaulty : List Reading → List ℕ → ℕ → ReadFault → Type 0
IsFaulty rs line n InputTooLong = ⊥
IsFaulty rs line n (BadLine k) = (k ≡ n) × (HasWideReading line → ⊥)
IsFaulty rs line n (NumberTooLarge k) = (k ≡ n) × HasWideReading line × (HasReading line → ⊥)
IsFaulty rs line n (TooManyBlocks k) = (k ≡ n) × StartsTooManyBlocks rs line
IsFaulty rs line n (TooManyOperations k) = (k ≡ n) × HoldsTooManyOperations rs line
IsFaulty rs line n NoMemory = ⊥

-- the first faulty line has this fault
pub record HasFirstFault (input : List ℕ) (fault : ReadFault) : Type 0 where
  pub short : length input ≤ MAX_INPUT
  pub before : List (List ℕ)
  pub line : List ℕ
  pub after : List (List ℕ)
  pub are_lines : AreLines input (before ++ line ∷ after)
  pub readings : List Reading
  pub read : ReadAs before readings
  pub none_faulty : NoneFaulty readings
  pub faulty : IsFaulty readings line (length before + 1) fault

-- the refusal that the bytes denote
abbrev pub IsRefused : List ℕ → ReadFault → Type 0
IsRefused input InputTooLong = MAX_INPUT < length input
IsRefused input (BadLine n) = HasFirstFault input (BadLine n)
IsRefused input (NumberTooLarge n) = HasFirstFault input (NumberTooLarge n)
IsRefused input (TooManyBlocks n) = HasFirstFault input (TooManyBlocks n)
IsRefused input (TooManyOperations n) = HasFirstFault input (TooManyOperations n)
IsRefused input NoMemory = ⊥
