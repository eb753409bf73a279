use Rattle.iloc_row_commands.proofs.Common.{◌≡◌, ◌*◌, ◌≤◌, take, most_cycles, most_proposed_cycles}
use Rattle.iloc_row_commands.specs.Steps.Checking.{totals_of}
use Rattle.iloc_row_commands.proofs.totals.Totals.«of».Given as goal

abbrev pub invariant-loop-checked : goal.invariant-loop-checked
invariant-loop-checked l = record {
  so_far : l.totals ≡ totals_of (take l.checked-index l.found);
  cycles : l.totals.cycles ≤ most_proposed_cycles * l.checked-index;
  best : l.totals.best ≤ 4294967295 * l.checked-index;
  bound : l.totals.bound ≤ 4294967295 * l.checked-index;
  ours : l.totals.ours ≤ most_cycles * l.checked-index;
  least : l.totals.least ≤ most_cycles * l.checked-index;
}
