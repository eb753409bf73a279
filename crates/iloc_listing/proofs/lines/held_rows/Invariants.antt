use Rattle.iloc_listing.proofs.Common.{◌≡◌, ◌≤◌, length, take, held_rows}
use Rattle.iloc_listing.proofs.lines.held_rows.Given as goal

-- behind so many rows all are empty
abbrev pub invariant-loop-count : goal.invariant-loop-count
invariant-loop-count l = record {
  within : l.count ≤ length l.rows;
  same : held_rows (take l.count l.rows) ≡ held_rows l.rows;
}

abbrev pub decreases-loop-count : goal.decreases-loop-count
decreases-loop-count l = l.count
