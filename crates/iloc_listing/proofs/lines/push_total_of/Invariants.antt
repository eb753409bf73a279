use Rattle.std.proofs.Common.{◌≡◌, ◌≤◌, ◌*◌, sum, take}
use Rattle.iloc_listing.proofs.lines.push_total_of.Given as goal

abbrev pub invariant-loop-count : goal.invariant-loop-count
invariant-loop-count l = record {
  sum_so_far : l.total ≡ sum (take l.count-index l.cycles);
  few : l.total ≤ 4294967295 * l.count-index;
}
