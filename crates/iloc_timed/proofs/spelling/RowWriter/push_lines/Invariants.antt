use Rattle.std.proofs.Common.{◌≡◌, ◌++◌, length}
use Rattle.std.specs.List.{flat_map}
use Rattle.iloc_timed.specs.Spelling.{row_line}
use Rattle.iloc_timed.proofs.spelling.RowWriter.push_lines.Given as goal

abbrev pub invariant-loop-rest : goal.invariant-loop-rest
invariant-loop-rest l = l.text.items ++ flat_map (row_line l.ops) l.rest ≡ l.initial.text.items ++ flat_map (row_line l.ops) l.rows

abbrev pub decreases-loop-rest : goal.decreases-loop-rest
decreases-loop-rest l = length l.rest
