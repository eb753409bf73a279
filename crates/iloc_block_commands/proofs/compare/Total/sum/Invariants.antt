use Rattle.iloc_block_commands.proofs.Common.{◌≡◌, ◌*◌, ◌≤◌, take, sum_by, added}
use Rattle.iloc_block_commands.proofs.compare.Total.sum.Given as goal

abbrev pub invariant-loop-comparison : goal.invariant-loop-comparison
invariant-loop-comparison l = record {
  sum_so_far : l.sum ≡ sum_by (added l.self) (take l.comparison-index l.found);
  few : l.sum ≤ 4294967295 * l.comparison-index;
}
