-- Stores under way, as far as rows were gone through.
use Rattle.std.specs.Prelude.{ℕ, ◌+◌, ◌≡◌, ◌<◌, List, length}
use Rattle.iloc_ops.specs.declared.op.Op.{Op}
use Rattle.iloc_meaning.specs.Trace.{op_at}
use Rattle.iloc_timed.specs.declared.kind.Kind.TheVariants.{Store}
use Rattle.iloc_timed.specs.declared.latencies.Latencies.{Latencies}
use Rattle.iloc_timed.specs.declared.row.Row.{Row}
use Rattle.iloc_timed.specs.Kinds.{kind}
use Rattle.iloc_timed.specs.Rows.{issue_cycle}

-- store s of a row before cycle c is under way until then
pub record IsStoredUntil (lat : Latencies) (ops : List Op) (rows : List Row) (c until : ℕ) : Type 0 where
  pub s : ℕ
  pub within : s < length ops
  pub store : kind (op_at ops s) ≡ Store
  pub begun : issue_cycle rows s < c
  pub over : until ≡ issue_cycle rows s + lat.store
