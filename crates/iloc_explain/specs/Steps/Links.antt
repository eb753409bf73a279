-- The links of a longest chain, as far as the operations were gone through.
use Rattle.std.specs.Prelude.{ℕ, ◌≡◌, ◌<◌, List, [], ◌∷◌, ◌++◌, length}
use Rattle.iloc_ops.specs.declared.op.Op.{Op}
use Rattle.iloc_timed.specs.declared.latencies.Latencies.{Latencies}
use Rattle.iloc_rules.specs.declared.memory_rule.MemoryRule.{MemoryRule}
use Rattle.iloc_explain.specs.Chain.{Continues, IsNext}

-- the chain starts with operation i and goes on with the next each time
abbrev pub IsLinked : MemoryRule → Latencies → List Op → ℕ → List ℕ → Type 0
IsLinked rule lat ops i [] = ⊥
IsLinked rule lat ops i (x ∷ []) = x ≡ i
IsLinked rule lat ops i (x ∷ y ∷ chain) = (x ≡ i) × IsNext rule lat ops i y × IsLinked rule lat ops y (y ∷ chain)

-- a chain from operation i to operation `last`, behind which no operation before operation j continues it
pub record IsChainTo (rule : MemoryRule) (lat : Latencies) (ops : List Op) (i last j : ℕ) (chain : List ℕ) : Type 0 where
  pub front : List ℕ
  pub ends : chain ≡ front ++ last ∷ []
  pub known : last < length ops
  pub before : last < j
  pub linked : IsLinked rule lat ops i chain
  pub none : (k : ℕ) → k < j → Continues rule lat ops last k → ⊥
