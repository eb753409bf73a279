-- What pins longest chains down without a recursion: of the priorities, of the starts, and of the tails.
use Rattle.std.specs.Prelude.{ℕ, ◌+◌, ◌≡◌, ◌<◌, ◌≤◌, ◌⊎◌, List, length}
use Rattle.iloc_ops.specs.declared.op.Op.{Op}
use Rattle.iloc_meaning.specs.Trace.{op_at}
use Rattle.iloc_timed.specs.declared.latencies.Latencies.{Latencies}
use Rattle.iloc_timed.specs.Latency.{latency}
use Rattle.iloc_rules.specs.Delays.{Counts, all_count, IsDelayPairWhere}

-- The chain of an operation is at least its base and each d + value(j) over its pairs (i, j, d), and equals one of
-- them; its value is at least its chain.
pub record IsChain (size : ℕ) (Pair : ℕ → ℕ → ℕ → Type 0) (base chain value : ℕ → ℕ) : Type 0 where
  pub own : (i : ℕ) → i < size → base i ≤ chain i
  pub pairs : (i j d : ℕ) → Pair i j d → d + value j ≤ chain i
  pub reached : (i : ℕ) → i < size → (chain i ≡ base i) ⊎ ((j : ℕ) × (d : ℕ) × Pair i j d × (chain i ≡ d + value j))
  pub whole : (i : ℕ) → i < size → chain i ≤ value i

-- by `counts`: chains from latencies over the pairs out of operations, and chains from 0 over the pairs into them
abbrev pub IsChainOutWhere : Counts → Latencies → List Op → (ℕ → ℕ) → (ℕ → ℕ) → Type 0
IsChainOutWhere counts lat ops = IsChain (length ops) (IsDelayPairWhere counts lat ops) (λ i. latency lat (op_at ops i))

abbrev pub IsChainIntoWhere : Counts → Latencies → List Op → (ℕ → ℕ) → Type 0
IsChainIntoWhere counts lat ops at = IsChain (length ops) (λ j i d. IsDelayPairWhere counts lat ops i j d) (λ j. 0) at at

-- the same where all count
abbrev pub IsChainOut : Latencies → List Op → (ℕ → ℕ) → (ℕ → ℕ) → Type 0
IsChainOut = IsChainOutWhere all_count
