-- What keeps a proposal from being a schedule.
use Rattle.std.specs.Prelude.{◌≡◌, ℕ, None, List}
use Rattle.iloc_ops.specs.declared.op.Op.{Op}
use Rattle.iloc_timed.specs.declared.row.Row.{Row}
use Rattle.iloc_timed.specs.Rows.{IsTable}
use Rattle.iloc_timed.specs.Schedule.{IsFirstBadRow}
use Rattle.iloc_rows.specs.declared.proposal.Proposed.{Proposed}
use Rattle.iloc_lint.specs.Row.{IsRowWording}
use Rattle.iloc_verdict.specs.declared.obstacle.Obstacle.{Obstacle}
use Rattle.iloc_verdict.specs.declared.obstacle.Obstacle.TheVariants.{Unread, Units}
use Rattle.iloc_verdict.specs.Obstacle.{obstacle_told, unread_of}

-- what is said of a line that can't be read is, in words, what is found at a place of it; or the row is the first that breaks the
-- rules of the units
abbrev pub Hinders : List Op → List Row → Obstacle → Type 0
Hinders ops rows (Unread unread words) = IsRowWording unread.now.text words.items
Hinders ops rows (Units c) = IsFirstBadRow ops rows c

-- `obstacle` keeps a proposal from being a schedule: its first line that can't be read, and else a row
pub record IsObstacle (proposal : Proposed) (obstacle : Obstacle) : Type 0 where
  pub first : proposal.unread ≡ unread_of obstacle
  pub hinders : Hinders proposal.ops proposal.rows obstacle

-- nothing does: each line can be read, and the rows keep the rules of the units
pub record IsReadable (proposal : Proposed) : Type 0 where
  pub read : proposal.unread ≡ None
  pub table : IsTable proposal.ops proposal.rows

-- `line` is that of what keeps a proposal from being a schedule
pub record IsObstacleLine (proposal : Proposed) (line : List ℕ) : Type 0 where
  pub obstacle : Obstacle
  pub hinders : IsObstacle proposal obstacle
  pub listed : line ≡ obstacle_told proposal.ops proposal.rows obstacle
