-- What is issued while a store is under way.
use Rattle.std.specs.Prelude.{ℕ, ◌≡◌, ◌<◌, ◌≤◌, ◌⊎◌, List}
use Rattle.iloc_ops.specs.declared.op.Op.{Op}
use Rattle.iloc_meaning.specs.Trace.{op_at}
use Rattle.iloc_timed.specs.declared.kind.Kind.TheVariants.{Load, Store, Output}
use Rattle.iloc_timed.specs.declared.latencies.Latencies.{Latencies}
use Rattle.iloc_timed.specs.declared.row.Row.{Row}
use Rattle.iloc_timed.specs.Kinds.{kind}
use Rattle.iloc_timed.specs.Rows.{issue_cycle}
use Rattle.iloc_facts.specs.Readings.{due}

-- load or output k of the rows is issued while store s is under way
pub record IsUnderWay (lat : Latencies) (ops : List Op) (rows : List Row) (k s : ℕ) : Type 0 where
  pub store : kind (op_at ops s) ≡ Store
  pub waits : (kind (op_at ops k) ≡ Load) ⊎ (kind (op_at ops k) ≡ Output)
  pub begun : issue_cycle rows s ≤ issue_cycle rows k
  pub not_over : issue_cycle rows k < due lat ops rows s
