use Rattle.std.proofs.Common.{◌≡◌, ◌<◌, ◌≤◌, ◌⊎◌}
use Rattle.iloc_comparison.proofs.refutation.probe.Probe.trimmed.Given as goal

abbrev pub invariant-loop-place : goal.invariant-loop-place
invariant-loop-place l = record {
  ordered : l.first ≤ l.end;
  within : l.end ≤ l.place;
  starts : (l.first ≡ 0) ⊎ (l.first < l.end);
}
