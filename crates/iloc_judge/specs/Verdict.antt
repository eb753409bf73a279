-- What is said of somebody's rows for a block.
use Rattle.std.specs.Prelude.{Bool, Option, None, List, ℤ}
use Rattle.iloc_ops.specs.declared.op.Op.{Op}
use Rattle.iloc_timed.specs.declared.latencies.Latencies.{Latencies}
use Rattle.iloc_timed.specs.declared.row.Row.{Row}
use Rattle.iloc_timed.specs.Rows.{IsTable}
use Rattle.iloc_rows.specs.declared.proposal.unread.Unread.{Unread}
use Rattle.iloc_rules.specs.Renaming.{without_nops}
use Rattle.iloc_validation.specs.ByTheBook.{IsByTheBook}
use Rattle.iloc_facts.specs.Counts.{AreItsOperations}
use Rattle.iloc_facts.specs.Reasons.{AreReasons}
use Rattle.iloc_verdict.specs.declared.verdict.Verdict.{Verdict}
use Rattle.iloc_verdict.specs.declared.verdict.Verdict.TheVariants.{Refused, Lawful, Unlawful, Undecided}
use Rattle.iloc_verdict.specs.Changes.{AreChanges}
use Rattle.iloc_verdict.specs.Obstacle.{unread_of}
use Rattle.iloc_comparison.specs.Comparison.{IsComparison}
use Rattle.iloc_judge.specs.Obstacle.{Hinders}

-- The verdict is right, of operations and rows for a block, with `memory` handed in. Either what is said keeps them from being a
-- schedule, and the operations named are left out or added; or the rows are by the book; or they aren't, the facts listed hold of
-- them, and the comparison listed holds, by outcomes or by outputs alone; or neither is decided, nothing is left out or added, and
-- the comparison listed holds.
abbrev pub IsVerdict : Bool → Latencies → List Op → List Op → List Row → List ℤ → Verdict → Type 0
IsVerdict outputs lat block ops rows memory (Refused obstacle changes) =
    Hinders ops rows obstacle × AreChanges (without_nops block) ops rows changes
IsVerdict outputs lat block ops rows memory Lawful = IsByTheBook lat block ops rows
IsVerdict outputs lat block ops rows memory (Unlawful reasons found) =
    IsTable ops rows × (IsByTheBook lat block ops rows → ⊥) × AreReasons lat (without_nops block) ops rows reasons
    × IsComparison outputs lat block ops rows memory found
IsVerdict outputs lat block ops rows memory (Undecided found) =
    IsTable ops rows × AreItsOperations (without_nops block) ops × IsComparison outputs lat block ops rows memory found

-- the line of which a verdict says that it can't be read, if it says so
abbrev pub unread_in : Verdict → Option Unread
unread_in (Refused obstacle changes) = unread_of obstacle
unread_in verdict = None
