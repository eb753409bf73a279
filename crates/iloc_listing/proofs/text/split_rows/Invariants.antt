use Rattle.iloc_listing.proofs.Common.{◌≡◌, ◌+◌, ◌≤◌, ◌++◌, length, empty_rows}
use Rattle.iloc_listing.proofs.text.split_rows.Given as goal

abbrev pub invariant-loop-rows : goal.invariant-loop-rows
invariant-loop-rows l = record {
  parts : l.text ≡ empty_rows l.rows ++ l.rest;
  fits : length l.rest + l.rows ≤ length l.text;
}

abbrev pub decreases-loop-rows : goal.decreases-loop-rows
decreases-loop-rows l = length l.rest
