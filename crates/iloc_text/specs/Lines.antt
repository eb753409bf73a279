-- The lines of a text.
use Rattle.std.specs.Prelude.{ℕ, Bool, ◌==◌, List, [], Option, Some, None}
use Rattle.std.specs.List.{slice_split, position}
use Rattle.std.specs.Borrow.{Bor}

abbrev pub is_line_end : ℕ → Bool
is_line_end c = c == 10

-- the place of the first line end
abbrev pub line_end : List ℕ → Option ℕ
line_end text = position is_line_end text

-- the parts between the line ends
abbrev pub lines_of : List ℕ → List (List ℕ)
lines_of text = slice_split is_line_end text

-- the lines of what is left, where anything is
abbrev pub lines_left : Option (Bor (List ℕ)) → List (List ℕ)
lines_left None = []
lines_left (Some text) = lines_of text.now
