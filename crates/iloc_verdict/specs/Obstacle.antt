-- What keeps rows from being a schedule, and its line.
use Rattle.std.specs.Prelude.{ℕ, ◌<◌, ◌==◌, not, Some, None, Option, List, ◌++◌, length, codes}
use Rattle.std.specs.List.{filter}
use Rattle.std.specs.Fmt.{decimal}
use Rattle.iloc_ops.specs.declared.op.Op.{Op}
use Rattle.iloc_timed.specs.declared.row.Row.{Row}
use Rattle.iloc_rows.specs.declared.proposal.unread.Unread as line
use Rattle.iloc_comparison.specs.declared.task.Form.TheVariants.{Lines}
use Rattle.iloc_verdict.specs.declared.obstacle.Obstacle.{Obstacle}
use Rattle.iloc_verdict.specs.declared.obstacle.Obstacle.TheVariants.{Unread, Units}
use Rattle.iloc_verdict.specs.Remarks.{units_remark}

-- the line of which an obstacle says that it can't be read, if it says so
abbrev pub unread_of : Obstacle → Option line.Unread
unread_of (Unread unread words) = Some unread.now
unread_of (Units c) = None

-- a row that breaks the rules of the units is one of `rows`
abbrev pub IsAmong : List Row → Obstacle → Type 0
IsAmong rows (Unread unread words) = Unit {0}
IsAmong rows (Units c) = c < length rows

-- the words without line ends
abbrev pub in_one_line : List ℕ → List ℕ
in_one_line words = filter (λ byte. not (byte == 10)) words

-- `line L, row N: ` and some words, where lines count from 1, and rows from 0
abbrev pub unread_told : line.Unread → List ℕ → List ℕ
unread_told unread words =
    codes "  line " ++ decimal unread.line ++ codes ", row " ++ decimal unread.row ++ codes ": " ++ in_one_line words
    ++ codes "\n"

-- `row N: [ X ; Y ]`, counted from 0 as cycles are, and the first rule that it breaks
abbrev pub bad_row : List Op → List Row → ℕ → List ℕ
bad_row ops rows c = units_remark Lines ops rows c ++ codes "\n"

-- the line of what keeps `rows` from being a schedule
abbrev pub obstacle_told : List Op → List Row → Obstacle → List ℕ
obstacle_told ops rows (Unread unread words) = unread_told unread.now words.items
obstacle_told ops rows (Units c) = bad_row ops rows c
