-- What holds while the operations that depend on others are found, 64 at a time.
use Rattle.std.specs.Prelude.{ℕ, ◌+◌, ◌≡◌, ◌<◌, ◌≤◌, ◌⊎◌, true, List, length, slice_index}
use Rattle.std.specs.Int.{bit_at}
use Rattle.iloc_ops.specs.declared.op.Op.{Op}
use Rattle.iloc_timed.specs.declared.latencies.Latencies.{Latencies}
use Rattle.iloc_rules.specs.Delays.{Counts}
use Rattle.iloc_rules.specs.Heuristics.{depends_on_where}
use Rattle.iloc_sched.specs.Steps.Graph.{Graph}

-- operation `j` is operation `k`, or depends on it by `counts`
abbrev pub Reaches : Counts → Latencies → List Op → ℕ → ℕ → Type 0
Reaches counts lat ops k j = (k ≡ j) ⊎ (depends_on_where counts lat ops k j ≡ true)

-- `masks` has a set for each operation, in which bit `b` is operation `base + b`, while edges are visited from the
-- last: the edges from `x` on are done
pub record IsMarked (counts : Counts) (lat : Latencies) (ops : List Op) (graph : Graph) (base : ℕ) (masks : List ℕ) (x : ℕ) : Type 0 where
  pub size : length masks ≡ length ops
  pub only : (i b : ℕ) → i < length ops → b < 64 → bit_at (slice_index masks i) b ≡ 1 → depends_on_where counts lat ops i (base + b) ≡ true
  pub over : (y b : ℕ) → x ≤ y → y < graph.count → b < 64 → Reaches counts lat ops (graph.to y) (base + b) → bit_at (slice_index masks (graph.from y)) b ≡ 1

-- the set of each operation in `masks` has exactly the operations from `base` on that depend on it
pub record AreMarked (counts : Counts) (lat : Latencies) (ops : List Op) (base : ℕ) (masks : List ℕ) : Type 0 where
  pub size : length masks ≡ length ops
  pub only : (i b : ℕ) → i < length ops → b < 64 → bit_at (slice_index masks i) b ≡ 1 → depends_on_where counts lat ops i (base + b) ≡ true
  pub all : (i b : ℕ) → i < length ops → b < 64 → depends_on_where counts lat ops i (base + b) ≡ true → bit_at (slice_index masks i) b ≡ 1
