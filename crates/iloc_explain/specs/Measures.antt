-- What an explanation needs to know of a block's operations.
use Rattle.std.specs.Prelude.{ℕ, ◌+◌, ◌≡◌, ◌≤◌, List, length, Contains}
use Rattle.iloc_ops.specs.declared.op.Op.{Op}
use Rattle.iloc_timed.specs.declared.latencies.Latencies.{Latencies}
use Rattle.iloc_rules.specs.declared.delay_pairs.Pair.{Pair}
use Rattle.iloc_rules.specs.declared.memory_rule.MemoryRule.{MemoryRule}
use Rattle.iloc_rules.specs.Delays.{IsDelayPairWhere}
use Rattle.iloc_rules.specs.Rule.{counts_by}
use Rattle.iloc_rules.specs.Starts.{starts_where}
use Rattle.iloc_explain.specs.declared.measures.Measures.{Measures}
use Rattle.iloc_explain.specs.Chain.{chains_by}

-- `pairs` are delay pairs of `ops` by `rule`, and cycles of issue that wait for them wait for all.
pub record ImplyAll (rule : MemoryRule) (lat : Latencies) (ops : List Op) (pairs : List Pair) : Type 0 where
  pub each : (p : Pair) → Contains pairs p → IsDelayPairWhere (counts_by rule ops) lat ops p.first p.second p.delay
  pub imply : (cycle : ℕ → ℕ) → ((p : Pair) → Contains pairs p → cycle p.first + p.delay ≤ cycle p.second)
      → (i j d : ℕ) → IsDelayPairWhere (counts_by rule ops) lat ops i j d → cycle i + d ≤ cycle j

-- `m` are the measures of the operations `ops`, which are renamed, by whatever numbers they are ranked
pub record AreMeasures (lat : Latencies) (ops : List Op) (m : Measures) : Type 0 where
  pub ranked : length m.ranks.items ≡ length ops
  pub pairs : ImplyAll m.delays.rule lat ops m.pairs.items
  pub chains : m.chains.items ≡ chains_by m.delays.rule lat ops
  pub starts : m.starts.items ≡ starts_where (counts_by m.delays.rule ops) lat ops
