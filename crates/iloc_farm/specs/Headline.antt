-- The headline of the farm: what several workers made of a file's blocks, in whatever order their steps came.
use Rattle.std.specs.Prelude.{◌≡◌, ℕ, ◌+◌, ℤ, List, length, slice_get, IfSome}
use Rattle.iloc_ops.specs.declared.file.Block.{Block}
use Rattle.iloc_meaning.specs.Outcome.{outcome}
use Rattle.iloc_timed.specs.declared.latencies.Latencies.{Latencies}
use Rattle.iloc_timed.specs.Rows.{IsTable}
use Rattle.iloc_timed.specs.Schedule.{Table}
use Rattle.iloc_timed.specs.Timed.{timed_outcome}
use Rattle.iloc_board.specs.Finished.{IsDoneBy, ReceiptView}

-- The schedule s keeps its block b.
pub record KeepsItsBlock (lat : Latencies) (b : Block) (s : Table) : Type 0 where
  -- Each of its operations stands in one slot, and each row keeps the rules of the units.
  pub units : IsTable s.ops s.rows
  -- With the latencies `lat` and on every memory, it emits what its block emits and leaves the same memory, or faults
  -- where its block does.
  pub same : (memory : List ℤ) → timed_outcome lat s.ops s.rows memory ≡ outcome b.ops memory

-- What the workers of this receipt did with these blocks. By their journals it is one legal history of a board of one thread. In
-- it no block is taken twice or handed back twice, and at its end none waits and none is out. For each block the receipt keeps
-- exactly one answer, which was handed back for it, at its cost; and of an answer `x` for a block `b`, the k-th, this `holds`.
abbrev pub Headline : {A : Type 0} → (holds : (k : ℕ) → (b : Block) → (x : A) → Type 0) → (cost : A → ℕ) → List Block
    → ReceiptView A → Type 0
Headline holds cost blocks receipt =
    IsDoneBy (length blocks) (λ i x. IfSome (slice_get blocks i) (λ (b : Block). holds (i + 1) b x)) cost receipt
