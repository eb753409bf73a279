-- Which schedules keep a block's meaning.
use Rattle.std.specs.Prelude.{ℕ, ◌+◌, ◌≡◌, ◌≤◌, List}
use Rattle.iloc_ops.specs.declared.op.Op.{Op}
use Rattle.iloc_timed.specs.declared.latencies.Latencies.{Latencies}
use Rattle.iloc_timed.specs.declared.row.Row.{Row}
use Rattle.iloc_timed.specs.Rows.{IsTable, issue_cycle}
use Rattle.iloc_rules.specs.Renaming.{renamed}
use Rattle.iloc_rules.specs.Delays.{Counts, all_count, IsDelayPairWhere}

-- The operations `ops` in `rows` are a lawful schedule of `block` by `counts`: they are its renamed operations, each is
-- in one slot by the rules of the units, and each delay is waited for.
pub record IsLawfulWhere (counts : Counts) (lat : Latencies) (block ops : List Op) (rows : List Row) : Type 0 where
  pub names : ops ≡ renamed block
  pub table : IsTable ops rows
  pub waits : (i j d : ℕ) → IsDelayPairWhere counts lat ops i j d → issue_cycle rows i + d ≤ issue_cycle rows j

-- the same where all count
abbrev pub IsLawful : Latencies → List Op → List Op → List Row → Type 0
IsLawful = IsLawfulWhere all_count
