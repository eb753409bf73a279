use Rattle.std.proofs.Common.{◌≡◌, vec_len}
use Rattle.iloc_comparison.proofs.refutation.probe.Probe.of.Given as goal

abbrev pub invariant-loop-cell : goal.invariant-loop-cell
invariant-loop-cell l = vec_len l.words ≡ l.count
