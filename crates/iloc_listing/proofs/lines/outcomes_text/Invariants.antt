use Rattle.iloc_listing.proofs.Common.{◌≡◌, ◌+◌, ◌++◌, drop, entries, outcome_entry}
use Rattle.iloc_listing.proofs.lines.outcomes_text.Given as goal

abbrev pub invariant-loop-index : goal.invariant-loop-index
invariant-loop-index l =
    l.text.items ++ entries outcome_entry (l.index + 1) (drop l.index l.file.blocks) (drop l.index l.outcomes)
    ≡ entries outcome_entry 1 l.file.blocks l.outcomes
