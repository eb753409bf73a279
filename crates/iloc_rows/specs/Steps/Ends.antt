-- Where the blocks of a text end and its schedule lines begin.
use Rattle.std.specs.Prelude.{◌≡◌, ℕ, Bool, true, false, List, ◌++◌, length}
use Rattle.std.specs.List.{join_with_byte}
use Rattle.iloc_text.specs.ScheduleLines.{Said}
use Rattle.iloc_text.specs.ScheduleLines.Said.{nothing, row, head, cycles, total}
use Rattle.iloc_text.specs.Lines.{lines_of, lines_left}
use Rattle.iloc_rows.specs.declared.blocks_end.CutText.{CutText}
use Rattle.iloc_rows.specs.Submissions.{BlocksEnd}

-- whether nothing is said
abbrev pub is_nothing : Said → Bool
is_nothing nothing = true
is_nothing (row zero one) = false
is_nothing (head k name) = false
is_nothing (cycles c) = false
is_nothing (total t) = false

-- `cut` has the two parts of the text, with the number of the lines of the first
pub record IsCutOf (input : List ℕ) (cut : CutText) : Type 0 where
  pub before : List (List ℕ)
  pub lines : lines_of input ≡ before ++ lines_left cut.rows
  pub ends : BlocksEnd before (lines_left cut.rows)
  pub blocks : cut.blocks.now ≡ join_with_byte 10 before
  pub count : cut.lines ≡ length before
