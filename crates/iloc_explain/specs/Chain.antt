-- Chains of delays, which no schedule of the block can shorten.
use Rattle.std.specs.Prelude.{ℕ, ◌+◌, ◌≡◌, ◌<◌, ◌≤◌, max, fold, List, [], ◌∷◌, length, slice_index}
use Rattle.iloc_ops.specs.declared.op.Op.{Op}
use Rattle.iloc_meaning.specs.Trace.{op_at}
use Rattle.iloc_timed.specs.declared.latencies.Latencies.{Latencies}
use Rattle.iloc_timed.specs.Latency.{latency}
use Rattle.iloc_rules.specs.declared.heuristic.Heuristic.TheVariants.{Chain}
use Rattle.iloc_rules.specs.declared.memory_rule.MemoryRule.{MemoryRule}
use Rattle.iloc_rules.specs.Delays.{IsDelayPairWhere}
use Rattle.iloc_rules.specs.Rule.{counts_by}
use Rattle.iloc_rules.specs.Heuristics.{priorities_under}

-- by operation the longest chain of delays from it, by a rule of memory
abbrev pub chains_by : MemoryRule → Latencies → List Op → List ℕ
chains_by rule lat ops = priorities_under rule Chain lat ops

-- the longest chain of delays from operation i
abbrev pub chain_by : MemoryRule → Latencies → List Op → ℕ → ℕ
chain_by rule lat ops i = slice_index (chains_by rule lat ops) i

-- a delay from operation i to operation j and the longest chain from j are together the longest from i
pub record Continues (rule : MemoryRule) (lat : Latencies) (ops : List Op) (i j : ℕ) : Type 0 where
  pub delay : ℕ
  pub pair : IsDelayPairWhere (counts_by rule ops) lat ops i j delay
  pub sum : chain_by rule lat ops i ≡ delay + chain_by rule lat ops j

-- operation j is the first that continues a chain at operation i
pub record IsNext (rule : MemoryRule) (lat : Latencies) (ops : List Op) (i j : ℕ) : Type 0 where
  pub continues : Continues rule lat ops i j
  pub first : (k : ℕ) → k < j → Continues rule lat ops i k → ⊥

-- the chain starts with operation i, goes on with the next each time, and ends where there is none
abbrev pub IsChainFrom : MemoryRule → Latencies → List Op → ℕ → List ℕ → Type 0
IsChainFrom rule lat ops i [] = ⊥
IsChainFrom rule lat ops i (x ∷ []) = (x ≡ i) × ((j : ℕ) → Continues rule lat ops i j → ⊥)
IsChainFrom rule lat ops i (x ∷ y ∷ chain) = (x ≡ i) × IsNext rule lat ops i y × IsChainFrom rule lat ops y (y ∷ chain)

-- operation i is the first from which a longest chain leads
pub record IsFirstOfGreatest (rule : MemoryRule) (lat : Latencies) (ops : List Op) (i : ℕ) : Type 0 where
  pub known : i < length ops
  pub greatest : (k : ℕ) → k < length ops → chain_by rule lat ops k ≤ chain_by rule lat ops i
  pub first : (k : ℕ) → k < i → chain_by rule lat ops k < chain_by rule lat ops i

-- the chain from the first operation from which a longest one leads; where there are no operations it is empty
abbrev pub IsLongestChain : MemoryRule → Latencies → List Op → List ℕ → Type 0
IsLongestChain rule lat [] chain = chain ≡ []
IsLongestChain rule lat (op ∷ ops) chain =
    (i : ℕ) × IsFirstOfGreatest rule lat (op ∷ ops) i × IsChainFrom rule lat (op ∷ ops) i chain

-- Each operation of the chain waits for the one before it, and the delays and the latency of the last operation take
-- `cycles` cycles together.
abbrev pub Spans : MemoryRule → Latencies → List Op → List ℕ → ℕ → Type 0
Spans rule lat ops [] cycles = ⊥
Spans rule lat ops (i ∷ []) cycles = cycles ≡ latency lat (op_at ops i)
Spans rule lat ops (i ∷ j ∷ chain) cycles =
    (d : ℕ) × (rest : ℕ) × IsDelayPairWhere (counts_by rule ops) lat ops i j d × (cycles ≡ d + rest) × Spans rule lat ops (j ∷ chain) rest

-- the chain spans as many cycles as the longest, as none spans more
abbrev pub SpansTheGreatest : MemoryRule → Latencies → List Op → List ℕ → Type 0
SpansTheGreatest rule lat [] chain = chain ≡ []
SpansTheGreatest rule lat (op ∷ ops) chain = Spans rule lat (op ∷ ops) chain (fold max 0 (chains_by rule lat (op ∷ ops)))
