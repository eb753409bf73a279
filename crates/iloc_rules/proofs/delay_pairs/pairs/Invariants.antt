use Rattle.iloc_rules.proofs.Common.{◌≡◌, pairs_before}
use Rattle.iloc_rules.proofs.delay_pairs.pairs.Given as goal

abbrev pub invariant-loop-second : goal.invariant-loop-second
invariant-loop-second l = l.pairs.items ≡ pairs_before l.latencies l.ops l.second
