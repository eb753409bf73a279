use Rattle.iloc_row_commands.proofs.Common.{◌≡◌, ◌*◌, ◌≤◌, take, sum_by, most_proposed_cycles}
use Rattle.iloc_row_commands.proofs.explain.cycles_of_all.Given as goal

abbrev pub invariant-loop-one : goal.invariant-loop-one
invariant-loop-one l = record {
  sum_so_far : l.cycles ≡ sum_by (λ one. one.cycles) (take l.one-index l.found);
  few : l.cycles ≤ most_proposed_cycles * l.one-index;
}
