-- Rows that issue what a schedule of ours does keep the rules of the units.
use Rattle.iloc_judge.proofs.Common.{◌≡◌, ℕ, Some, None, List, length, arith, Op, IsTable, AreInRange, AreOnce, IsFirstBadRow, Latencies, Row, IsByTheBook, IssueTheSame}
use Rattle.iloc_rows.specs.declared.proposal.Proposed.{Proposed}
use Rattle.iloc_verdict.specs.declared.obstacle.Obstacle.{Obstacle}
use Rattle.iloc_verdict.specs.declared.obstacle.Obstacle.TheVariants.{Unread, Units}
use Rattle.iloc_judge.specs.Obstacle.{IsObstacle}
use Rattle.iloc_timed.proofs.Standing.{numbered_from}
use Rattle.iloc_rules.specs.Lawful.{IsLawful}
use Rattle.iloc_validation.proofs.SameIssues.{own_by_the_book}

no_bad_row : (ops : List Op) (rows : List Row) (c : ℕ) → IsTable ops rows → AreInRange (length ops) rows
    → IsFirstBadRow ops rows c → ⊥
no_bad_row ops rows c table inside bad = grind arith

-- ours is a lawful schedule of a block
own_rows_keep_units : (lat : Latencies) (block ops ops' : List Op) (rows rows' : List Row) (c : ℕ) → IsLawful lat block ops rows
    → AreInRange (length ops') rows' → AreOnce (length ops') rows' → IssueTheSame ops rows ops' rows'
    → IsFirstBadRow ops' rows' c → ⊥
own_rows_keep_units lat block ops ops' rows rows' c lawful inside once same bad =
    let book : IsByTheBook lat block ops' rows' =
    own_by_the_book lat block ops ops' rows rows' lawful (numbered_from ops' rows' inside once) same in
    no_bad_row ops' rows' c book.2.table inside bad

-- so nothing keeps them from being a schedule, if all can be read
pub own_rows_are_free : (lat : Latencies) (block ops : List Op) (rows : List Row) (p : Proposed) (obstacle : Obstacle)
    → IsLawful lat block ops rows → AreInRange (length p.ops) p.rows → AreOnce (length p.ops) p.rows → IsObstacle p obstacle
    → p.unread ≡ None → IssueTheSame ops rows p.ops p.rows → ⊥
own_rows_are_free lat block ops rows p (Unread unread words) lawful inside once is read same =
    let first : p.unread ≡ Some unread.now = is.first in cc
own_rows_are_free lat block ops rows p (Units c) lawful inside once is read same =
    own_rows_keep_units lat block ops p.ops rows p.rows c lawful inside once same is.hinders
