-- A path, as far as it was walked back.
use Rattle.std.specs.Prelude.{ℕ, ◌≡◌, ◌<◌, ◌≤◌, List, ◌∷◌, ◌++◌, length}
use Rattle.iloc_ops.specs.declared.op.Op.{Op}
use Rattle.iloc_meaning.specs.Trace.{op_at}
use Rattle.iloc_timed.specs.declared.latencies.Latencies.{Latencies}
use Rattle.iloc_timed.specs.declared.row.Row.{Row}
use Rattle.iloc_timed.specs.Latency.{latency}
use Rattle.iloc_timed.specs.Rows.{issue_cycle}
use Rattle.iloc_rules.specs.declared.memory_rule.MemoryRule.{MemoryRule}
use Rattle.iloc_explain.specs.declared.path.Stretch.{Stretch}
use Rattle.iloc_explain.specs.declared.path.Stretch.TheVariants.{Delay}
use Rattle.iloc_explain.specs.Path.{LeadBack}

-- what leads back from operation j in cycle c leads back, behind these stretches, from operation `last`
pub record IsWalked (rule : MemoryRule) (lat : Latencies) (ops : List Op) (rows : List Row) (last j c : ℕ) (path : List Stretch) : Type 0 where
  pub done : List Stretch
  pub whole : path ≡ Delay last (latency lat (op_at ops last)) ∷ done
  pub known : j < length ops
  pub within : c ≤ issue_cycle rows j
  pub leads : (before : List Stretch) → LeadBack rule lat ops rows j c before
      → LeadBack rule lat ops rows last (issue_cycle rows last) (done ++ before)
