use Rattle.std.proofs.Common.{◌≡◌, ◌*◌, ◌≤◌, drop, length}
use Rattle.std.specs.List.{flat_map}
use Rattle.iloc_timed.specs.Spelling.{row_line}
use Rattle.iloc_timed.specs.declared.spelling.TheConstants.{LONGEST_LINE}
use Rattle.iloc_timed.proofs.spelling.write_lines.Given as goal

abbrev pub invariant-loop-left : goal.invariant-loop-left
invariant-loop-left l = record {
  within : l.left ≤ length l.rows;
  space : (l.left * LONGEST_LINE ≤ l.start) × (l.start ≤ length l.lines);
  size : length l.lines ≡ length l.initial.lines;
  written : drop l.start l.lines ≡ flat_map (row_line l.ops) (drop l.left l.rows);
}

abbrev pub decreases-loop-left : goal.decreases-loop-left
decreases-loop-left l = l.left
