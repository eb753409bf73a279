-- The explanation as far as the operations were gone through.
use Rattle.std.specs.Prelude.{ℕ, ◌≡◌, List, length, slice_get, Some}
use Rattle.iloc_ops.specs.declared.op.Op.{Op}
use Rattle.iloc_timed.specs.declared.latencies.Latencies.{Latencies}
use Rattle.iloc_timed.specs.declared.row.Row.{Row}
use Rattle.iloc_rules.specs.declared.memory_rule.MemoryRule.{MemoryRule}
use Rattle.iloc_explain.specs.declared.explanation.Explained.{Explained}
use Rattle.iloc_explain.specs.Explained.{IsExplained}

-- the first n operations are explained
pub record IsExplainedSoFar (prios : List ℕ) (rule : MemoryRule) (lat : Latencies) (ops : List Op) (rows : List Row) (n : ℕ)
    (explained : List Explained) : Type 0 where
  pub all : length explained ≡ n
  pub each : (j : ℕ) (e : Explained) → slice_get explained j ≡ Some e → IsExplained prios rule lat ops rows j e
