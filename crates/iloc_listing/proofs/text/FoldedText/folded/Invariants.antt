use Rattle.iloc_listing.proofs.Common.{◌≡◌, ◌≤◌, ◌++◌, length, bytes_before, unfolded}
use Rattle.iloc_listing.proofs.text.FoldedText.folded.Given as goal

abbrev pub invariant-loop-rest : goal.invariant-loop-rest
invariant-loop-rest l = record {
  so_far : l.text ≡ unfolded l.runs.items l.bytes.items ++ l.rest;
  before : l.before ≡ bytes_before l.runs.items;
  within : l.before ≤ length l.bytes.items;
}

abbrev pub decreases-loop-rest : goal.decreases-loop-rest
decreases-loop-rest l = length l.rest
