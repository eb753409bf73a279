use Rattle.std.proofs.Common.{◌≡◌, vec_len}
use Rattle.iloc_comparison.proofs.refutation.probe.Probe.lowered.Given as goal

abbrev pub invariant-loop-index : goal.invariant-loop-index
invariant-loop-index l = vec_len l.words ≡ vec_len l.self.words
