use Rattle.std.proofs.Common.{◌≡◌, ◌*◌, ◌≤◌, drop, length}
use Rattle.iloc_listing.proofs.Common.{flat_map, word_line}
use Rattle.iloc_listing.specs.declared.words.TheConstants.{LONGEST_LINE}
use Rattle.iloc_listing.proofs.words.write_lines.Given as goal

abbrev pub invariant-loop-left : goal.invariant-loop-left
invariant-loop-left l = record {
  within : l.left ≤ length l.words;
  space : (l.left * LONGEST_LINE ≤ l.start) × (l.start ≤ length l.lines);
  size : length l.lines ≡ length l.initial.lines;
  written : drop l.start l.lines ≡ flat_map word_line (drop l.left l.words);
}

abbrev pub decreases-loop-left : goal.decreases-loop-left
decreases-loop-left l = l.left
