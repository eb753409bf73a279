use Rattle.iloc_block_commands.proofs.Common.{◌≡◌, ◌*◌, ◌≤◌, take, sum_by, Heuristic, counted_by, place, counted}
use Rattle.iloc_block_commands.proofs.compare.Tally.sum.Given as goal

abbrev pub invariant-loop-comparison : goal.invariant-loop-comparison
invariant-loop-comparison l = record {
  sum_so_far : (h : Heuristic) → l.place ≡ place h → l.sum ≡ sum_by (counted_by (counted l.self) h) (take l.comparison-index l.found);
  few : l.sum ≤ 4294967295 * l.comparison-index;
}
