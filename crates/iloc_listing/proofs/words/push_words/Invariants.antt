use Rattle.std.proofs.Common.{◌≡◌, ◌*◌, ◌++◌, length}
use Rattle.iloc_listing.proofs.Common.{flat_map, word_line}
use Rattle.iloc_listing.specs.declared.words.TheConstants.{LONGEST_LINE, WORDS_AT_ONCE}
use Rattle.iloc_listing.proofs.words.push_words.Given as goal

abbrev pub invariant-loop-rest : goal.invariant-loop-rest
invariant-loop-rest l = record {
  size : length l.lines ≡ WORDS_AT_ONCE * LONGEST_LINE;
  written : l.text.items ++ flat_map word_line l.rest ≡ l.initial.text.items ++ flat_map word_line l.words;
}

abbrev pub decreases-loop-rest : goal.decreases-loop-rest
decreases-loop-rest l = length l.rest
