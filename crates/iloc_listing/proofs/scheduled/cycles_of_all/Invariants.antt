use Rattle.std.proofs.Common.{◌≡◌, ◌≤◌, ◌*◌, sum_by, take}
use Rattle.iloc_listing.proofs.scheduled.cycles_of_all.Given as goal

abbrev pub invariant-loop-entry : goal.invariant-loop-entry
invariant-loop-entry l = record {
  sum_so_far : l.total ≡ sum_by (λ entry. entry.cycles) (take l.entry-index l.entries);
  few : l.total ≤ 4294967295 * l.entry-index;
}
